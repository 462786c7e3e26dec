-- Texts that are written of a trace are read back as that trace.
use Rattle.std.proofs.Common.{◌≡◌, ℕ, List, sym, subst, arith}
use Rattle.step_trace.specs.Traces.{Recorded}
use Rattle.trace_text.specs.declared.versions.Version.TheVariants.{Two}
use Rattle.trace_text.specs.TraceTexts.{IsTextTrace, trace_text_2}
use Rattle.trace_text.proofs.WrittenTexts.{StandsFor-version_text, short-version_text}
use Rattle.text_verdicts.specs.Texts.{IsTextOf}

-- the text of a trace in version 2 encodes it, and isn't too large
pub text_2-stands : (t : Recorded) (text : List ℕ) → IsTextTrace t → text ≡ trace_text_2 t → IsTextOf text t
text_2-stands t text h e = subst (λ x. IsTextOf x t) (sym e) (record {
  trace = h;
  stands = StandsFor-version_text Two t h tt;
  size = (let short = short-version_text Two t h in omega (arith, short));
})

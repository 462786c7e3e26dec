-- A text that gives an option isn't bad; so there are no options for the first text that is.
use Rattle.std.proofs.Common.{ℕ, ◌≡◌, ◌∙◌, List, Option, Some, None, Result, Ok, Err, IfOk, IfErr, ap, subst}
use Rattle.event_log.specs.declared.options.OptionError.{OptionError}
use Rattle.event_log.specs.declared.options.OptionError.TheVariants as option
use Rattle.event_log.specs.declared.times.LogEnd.{LogEnd}
use Rattle.event_log.specs.declared.times.TimeUnit.{TimeUnit}
use Rattle.event_log.specs.declared.times.Width.{Width}
use Rattle.event_log.specs.Options.{AreNodes, AreNodesIn, HasBadNodes, HasBadTick, HasBadUnit, HasBadUntil}
use Rattle.event_log.specs.Options.{IsNodeFault, IsOptionFault, IsTimeFault, IsUnitIn, IsUntilIn, IsWidthIn}
use Rattle.event_log.specs.Options.{ToldOptions, parts_between_commas}
use Rattle.event_log.specs.Results.{both}
use Rattle.event_log.specs.Times.{IsEnd, IsWidth, unit_of}

pub told-unit : (text : Option (List ℕ)) (unit : Option TimeUnit) → IsUnitIn text unit → ¬ HasBadUnit text
told-unit None unit h b = absurd (cc b.1)
told-unit (Some t) unit h b = let same : t ≡ b.0 = cc b.1 in
    let none : unit_of t ≡ None = ap unit_of same ∙ b.2 in let some = h.1 in absurd (cc)

pub told-width : (text : Option (List ℕ)) (width : Width) → IsWidthIn text width → ¬ HasBadTick text
told-width None width h b = absurd (cc b.1)
told-width (Some t) width h b = let same : t ≡ b.0 = cc b.1 in b.2 width (subst (λ x. IsWidth x width) same h)

pub told-until : (text : Option (List ℕ)) (until : Option LogEnd) → IsUntilIn text until → ¬ HasBadUntil text
told-until None until h b = absurd (cc b.1)
told-until (Some t) until h b = let same : t ≡ b.0 = cc b.1 in b.2 h.0 (subst (λ x. IsEnd x h.0) same h.1)

pub told-nodes : (text : Option (List ℕ)) (nodes : Option (List (List ℕ))) → AreNodesIn text nodes → ¬ HasBadNodes text
told-nodes None nodes h b = absurd (cc b.1)
told-nodes (Some t) nodes h b =
    let same : t ≡ b.0 = cc b.1 in
    b.2 (subst (λ x. AreNodes (parts_between_commas x)) same h.0)

of-nodes : (told : ToldOptions) (why : OptionError) → IsNodeFault (HasBadNodes told.nodes) why → IsOptionFault told why
of-nodes told option.Nodes h = h
of-nodes told option.Memory h = tt
of-nodes told _ h = absurd h

of-times : (told : ToldOptions) (why : OptionError) → ¬ HasBadNodes told.nodes
    → IsTimeFault told.unit told.tick told.until told.idle why → IsOptionFault told why
of-times told option.Nodes good h = absurd h
of-times told option.Memory good h = tt
of-times told option.Unit good h = (good, h)
of-times told option.Tick good h = (good, h.0, h.1)
of-times told option.Until good h = (good, h.0, h.1, h.2)
of-times told option.Idle good h = (good, h.0, h.1, h.2, h.3)

-- the first error of the nodes and of the times is why there are no options
pub first-fault : {B : Type 0} (told : ToldOptions) (nodes : Result (Option (List (List ℕ))) OptionError)
    (times : Result B OptionError) (why : OptionError) → IfOk nodes (AreNodesIn told.nodes)
    → IfErr nodes (IsNodeFault (HasBadNodes told.nodes))
    → IfErr times (IsTimeFault told.unit told.tick told.until told.idle) → both nodes times ≡ Err why
    → IsOptionFault told why
first-fault told (Err w) times why good bad late e = subst (IsOptionFault told) (cc e) (of-nodes told w bad)
first-fault told (Ok a) (Err w) why good bad late e =
    subst (IsOptionFault told) (cc e) (of-times told w (told-nodes told.nodes a good) late)
first-fault told (Ok a) (Ok b) why good bad late e = absurd (cc e)

-- What the plain line of each command is answered: its walk refuses no word, and the rows below the command compute.
use Rattle.std.proofs.Common.{◌≡◌, inl, refl, false, [], ◌∷◌, None, codes}
use Rattle.clap.proofs.OnLiterals.{clap_on_literals}
use Rattle.clap.specs.Words.{Text}
use Rattle.command_line.specs.Arguments.{IsListFault, IsMemory, is_flag}
use Rattle.command_line.specs.Commands.Check.{IsCheck, IsFilesFault, check_line}
use Rattle.command_line.specs.Commands.Draw.{IsDraw, IsDrawFault, draw_line}
use Rattle.command_line.specs.Commands.Import.{IsImport, import_line, no_flags, no_texts}
use Rattle.command_line.specs.Commands.Replay.{IsReplay, replay_line}
use Rattle.command_line.specs.Commands.Report.{IsReport, report_line}
use Rattle.command_line.specs.Commands.Upgrade.{IsUpgrade, upgrade_line}
use Rattle.command_line.proofs.PlainWords.{IsPlain, after_value, after_word, at_end, plain_line}

pub plain_report : (name file list : Text) → is_flag file ≡ false
    → is_flag list ≡ false → IsPlain (report_line name file list) (IsReport file list 1 None None) (IsListFault list)
unfolding clap_on_literals
plain_report name file list plain_file plain_list = plain_line (codes "report") (file ∷ codes "--correct" ∷ list ∷ []) _ _ _ _
    (after_value _ _ file _ _ plain_file refl refl refl refl (after_word _ _ _ (codes "--correct") _ _ refl refl
    (after_value _ _ list _ _ plain_list refl refl refl refl (at_end _ _)))) refl refl refl refl tt (λ given h. h)

pub plain_replay : (name file : Text) → is_flag file ≡ false → IsPlain (replay_line name file) (IsReplay file) IsMemory
unfolding clap_on_literals
plain_replay name file plain_file = plain_line (codes "replay") (file ∷ []) _ _ _ _
    (after_value _ _ file _ _ plain_file refl refl refl refl (at_end _ _)) refl refl refl refl tt (λ given h. h)

pub plain_upgrade : (name file : Text) → is_flag file ≡ false → IsPlain (upgrade_line name file) (IsUpgrade file) IsMemory
unfolding clap_on_literals
plain_upgrade name file plain_file = plain_line (codes "upgrade") (file ∷ []) _ _ _ _
    (after_value _ _ file _ _ plain_file refl refl refl refl (at_end _ _)) refl refl refl refl tt (λ given h. h)

pub plain_check : (name file certificate list : Text) → is_flag file ≡ false → is_flag certificate ≡ false → is_flag list ≡ false
    → IsPlain (check_line name file certificate list) (IsCheck file certificate list None) (IsFilesFault file certificate list)
unfolding clap_on_literals
plain_check name file certificate list plain_file plain_certificate plain_list =
    plain_line (codes "check") (file ∷ certificate ∷ codes "--correct" ∷ list ∷ []) _ _ _ _
    (after_value _ _ file _ _ plain_file refl refl refl refl (after_value _ _ certificate _ _ plain_certificate refl refl refl refl
    (after_word _ _ _ (codes "--correct") _ _ refl refl (after_value _ _ list _ _ plain_list refl refl refl refl (at_end _ _)))))
    refl refl refl refl tt (λ given h. h)

pub plain_draw : (name file list : Text) → is_flag file ≡ false → is_flag list ≡ false
    → IsPlain (draw_line name file list) (IsDraw file list None None None None None None)
    (IsDrawFault file list None None)
unfolding clap_on_literals
plain_draw name file list plain_file plain_list = plain_line (codes "draw") (file ∷ codes "--correct" ∷ list ∷ []) _ _ _ _
    (after_value _ _ file _ _ plain_file refl refl refl refl (after_word _ _ _ (codes "--correct") _ _ refl refl
    (after_value _ _ list _ _ plain_list refl refl refl refl (at_end _ _)))) refl refl refl refl (inl tt) (λ given h. h)

pub plain_import : (name log : Text) → is_flag log ≡ false → IsPlain (import_line name log) (IsImport log no_flags no_texts) IsMemory
unfolding clap_on_literals
plain_import name log plain_log = plain_line (codes "import") (log ∷ []) _ _ _ _
    (after_value _ _ log _ _ plain_log refl refl refl refl (at_end _ _)) refl refl refl refl tt (λ given h. h)

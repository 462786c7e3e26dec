use Rattle.std.proofs.Common.{◌≡◌, ◌≤◌, ◌-◌, ℕ, List, length, map, take, drop, arith}
use Rattle.std.proofs.lemmas.List.{length-drop, length-map, take_all}
use Rattle.csv.specs.Reading.{strip_bom}
use Rattle.event_log.proofs.PlainLines.{line-is_read}
use Rattle.event_log.proofs.plain_lines.PlainLine.read.Goals as goal

-- all bytes from a place on
tail-whole : (text : List ℕ) (at : ℕ) → take (length text - at) (drop at text) ≡ drop at text
tail-whole text at = take_all (length text - at) (drop at text) (let l = length-drop at text in omega (arith, l))

pub returns : goal.returns
returns c =
    let text = c.args.text.now in
    let end = c.in_ok-end.end in
    let kept = c.read_fields.new.fields.items in
    let two : 2 ≤ length (map (λ field. field.now) kept) =
    (let l = length-map kept (λ field. field.now) in omega (arith, l, c.len.ensures.value, c.if-len-lt2.false)) in
    let begin : strip_bom (drop c.args.at text) ≡ drop c.args.at text =
    rw (tail-whole text c.args.at) at c.may_be_marked.ensures.unmarked c.if-may_be_marked.false in
    let behind : strip_bom (drop end text) ≡ drop end text =
    rw (tail-whole text end) at c.may_be_marked-else-may_be_marked.ensures.unmarked c.if-may_be_marked-2.false in
    line-is_read text c.args.at (map (λ field. field.now) kept) end c.in_ok-end.ensures two begin behind

use Rattle.std.proofs.Common.{◌∙◌, vec_len, sym, arith}
use Rattle.suffix_staircase.specs.Levels.{rows_of}
use Rattle.judged_runs.specs.LaterRows.{later_by}
use Rattle.judged_runs.proofs.LaterRows.{all_mapped, map_next, row_within}
use Rattle.judged_runs.proofs.prefix_reports.later_rows.Goals as goal

pub later_by-requires : goal.later_by-requires
later_by-requires c =
    let within = row_within c.args.stairs.now (vec_len c.loop-row.rows) c.in-Some.row (sym (rw c.len.ensures at c.in-Some.ensures)) in
    let room = c.requires in
    omega (arith, within, room)

pub loop-row-preserved : goal.loop-row-preserved
loop-row-preserved c = rw (c.in_ok-push.ensures.len, c.in_ok-push.ensures.items, c.loop-row.invariant, c.later_by.ensures)
    (map_next (later_by c.args.after) (rows_of c.args.stairs.now)
    (vec_len c.loop-row.rows) c.in-Some.row (sym (rw c.len.ensures at c.in-Some.ensures)))

pub returns : goal.returns
returns c = c.loop-row.invariant
    ∙ all_mapped (later_by c.args.after) (rows_of c.args.stairs.now) (vec_len c.loop-row.rows) (rw c.len.ensures at c.in_default.ensures)

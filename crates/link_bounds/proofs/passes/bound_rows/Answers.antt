use Rattle.std.proofs.Common.{ℕ, subst}
use Rattle.link_bounds.specs.KnownMisses.{KnowsLinks}
use Rattle.link_bounds.specs.Passes.{KnowsLinksFrom}
use Rattle.link_bounds.specs.Rows.{AreRows}
use Rattle.link_bounds.proofs.GreatestBounds.{IsPhi-greatest, IsDelta-greatest}
use Rattle.link_bounds.proofs.passes.bound_rows.Goals as goal
use Rattle.link_bounds.proofs.passes.bound_rows.Goals.{After-drop-pass-7}

rows : (c : After-drop-pass-7) → AreRows c.args.set c.args.trace.now c.args.at c.push_rows-2.new.rows.items
rows c =
    let from = c.back_to.ensures in
    let sound = from.known.paces.sound in
    let members = c.in_ok-pass.ensures.members in
    let links : KnowsLinksFrom c.args.set c.args.trace.now c.args.at c.back_to.new.self.links = record {
      done = from.done;
      known = subst (λ (s : ℕ). KnowsLinks s c.args.trace.now from.done c.back_to.new.self.links) members from.known.links;
      before = from.before;
    } in
    c.in_ok-push_rows-2.ensures c.args.set c.args.trace.now c.args.at sound.time c.requires.within links c.in_ok-push_rows.ensures

pub returns-clause-rows : goal.returns-clause-rows
returns-clause-rows c = rows c

pub returns-clause-phi : goal.returns-clause-phi
returns-clause-phi c = IsPhi-greatest c.args.set c.args.trace.now c.args.at c.push_rows-2.new.rows.items (rows c)

pub returns-clause-delta : goal.returns-clause-delta
returns-clause-delta c = IsDelta-greatest c.args.set c.args.trace.now c.args.at c.push_rows-2.new.rows.items (rows c)

use Rattle.std.proofs.Common.{◌≡◌, ◌-◌, length, arith, sym, ap}
use Rattle.std.proofs.lemmas.List.{with_items_is}
use Rattle.round_model.specs.HeardSets.{HeardTable}
use Rattle.round_model.proofs.HeardTables.{IsHeardTable-set, heard_set-set}
use Rattle.round_model.proofs.heard_sets.Heard.set.Goals as goal

pub invariant_of-self : goal.invariant_of-self
invariant_of-self c =
    let kept : length c.put.new.sets ≡ c.self.inside.sets.len = omega arith in
    let processors : c.args.self.now.n ≡ c.self.inside.n = sym (ap (λ (h : HeardTable). h.n) c.self.view_is) in
    rw (with_items_is c.self.inside.sets c.put.new.sets kept, c.put.ensures, c.deref_mut.ensures.value)
    (IsHeardTable-set _ (c.args.proc - 1) (c.args.round - 1) c.args.senders c.self.invariant
    (omega arith) (rw processors at c.requires.within))

pub returns-clause-set : goal.returns-clause-set
returns-clause-set c =
    let kept : length c.put.new.sets ≡ c.self.inside.sets.len = omega arith in
    let processors : c.args.self.now.n ≡ c.self.inside.n = sym (ap (λ (h : HeardTable). h.n) c.self.view_is) in
    let rounds : c.args.self.now.rounds ≡ c.self.inside.rounds = sym (ap (λ (h : HeardTable). h.rounds) c.self.view_is) in
    rw (with_items_is c.self.inside.sets c.put.new.sets kept, c.put.ensures, c.deref_mut.ensures.value)
    (heard_set-set _ c.args.proc c.args.round c.args.senders c.self.invariant c.requires.low (omega arith) c.requires.first (omega arith))

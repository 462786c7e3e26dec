use Rattle.std.proofs.Common.{◌^◌, ◌-◌, refl, reverse, inl, inr, arith}
use Rattle.decision_claims.specs.Formulas.{whole}
use Rattle.decision_claims.proofs.AlikeValues.{near_closed, near_same, reverse-last}
use Rattle.decision_claims.proofs.values.with_part.Goals as goal

pub returns-in-Value-clause-near : goal.returns-in-Value-clause-near
returns-in-Value-clause-near c = λ cap l. rw c.in-Value.is
    (record { here = rw c.value.ensures at (c.times.ensures cap l); around = near_same cap (reverse c.args.around.now.items) })

pub returns-in-Plus-clause-near : goal.returns-in-Plus-clause-near
returns-in-Plus-clause-near c = λ cap l. let sum = c.saturating_add.ensures in
    rw c.in-Plus.is
    (record {
      here = record { most = refl; sum = omega (arith, sum, l); product = refl };
      around = near_same cap (reverse c.args.around.now.items);
    })

pub returns-in-Times-clause-near : goal.returns-in-Times-clause-near
returns-in-Times-clause-near c = λ cap l. rw c.in-Times.is
    (record { here = record { most = refl; sum = refl; product = refl }; around = near_same cap (reverse c.args.around.now.items) })

pub returns-in-Over-clause-near : goal.returns-in-Over-clause-near
returns-in-Over-clause-near c = λ cap l.
    rw (c.in-Over.is, c.over.ensures.most, c.over.ensures.sum, c.over.ensures.product)
    (record {
      here = record { most = refl; sum = refl; product = refl };
      around = near_same cap (reverse c.args.around.now.items);
    })

pub returns-in-Open-clause-near : goal.returns-in-Open-clause-near
returns-in-Open-clause-near c = λ cap l. elim c.in-Open.is [
  | inl e ↦ rw (
    e,
    c.nothing.ensures,
    reverse-last c.push.new.self.items c.args.around.now.items c.args.here
        c.push.ensures.items,
  )
      (record {
        here = record { most = refl; sum = refl; product = refl };
        around =
            (record { most = refl; sum = refl; product = refl }, near_same cap (reverse c.args.around.now.items));
      })
  | inr e ↦ rw (
    e,
    c.nothing.ensures,
    reverse-last c.push.new.self.items c.args.around.now.items c.args.here
        c.push.ensures.items,
  )
      (record {
        here = record { most = refl; sum = refl; product = refl };
        around =
            (record { most = refl; sum = refl; product = refl }, near_same cap (reverse c.args.around.now.items));
      })
]

pub returns-in-Comma-clause-near : goal.returns-in-Comma-clause-near
returns-in-Comma-clause-near c = λ cap l. let most = c.whole.ensures in
    rw c.in-Comma.is
    (record {
      here = record { most = omega (arith, most, l); sum = refl; product = refl };
      around = near_same cap (reverse c.args.around.now.items);
    })

pub returns-in-Some-clause-near : goal.returns-in-Some-clause-near
returns-in-Some-clause-near c = λ cap l.
    rw (c.in-Close.is, reverse-last c.args.around.now.items c.pop.new.self.items c.in-Some.outer c.in-Some.ensures.items) (record {
      here = near_closed cap (2 ^ 64 - 1) c.times-in-Some.result c.in-Some.outer
          (whole c.args.here) l (rw c.whole-in-Some.ensures at (c.times-in-Some.ensures cap l));
      around = near_same cap (reverse c.pop.new.self.items);
    })

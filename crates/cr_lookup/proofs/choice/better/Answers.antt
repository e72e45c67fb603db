use Rattle.std.proofs.Common.{ℕ, Option, subst}
use Rattle.cr_lookup.specs.Choice.{IsLeastIfAny}
use Rattle.cr_lookup.proofs.Best.{better_new, better_old}
use Rattle.cr_lookup.proofs.Members.{is_true, refuted}
use Rattle.cr_lookup.proofs.choice.better.Goals as goal

pub returns-then-is_below : goal.returns-then-is_below
returns-then-is_below c =
    let family : Option ℕ → Type 0 = λ best. IsLeastIfAny c.args.classes c.args.methods.now c.args.sought c.args.args.now c.args.n best in
    better_new c.args.classes c.args.methods.now c.args.sought c.args.args.now c.requires.calm c.requires.classes
    c.args.n c.in-Some.b c.method_at-old.result.now c.method_at-method.result.now c.method_at-old.ensures c.method_at-method.ensures
    (c.matches.ensures.0 (is_true c.matches.result c.if-not-matches.false))
    (c.is_below.ensures.0 (is_true c.is_below.result c.if-is_below.true))
    (subst family c.in-Some.is c.requires.before)

pub returns : goal.returns
returns c =
    let family : Option ℕ → Type 0 = λ best. IsLeastIfAny c.args.classes c.args.methods.now c.args.sought c.args.args.now c.args.n best in
    better_old c.args.classes c.args.methods.now c.args.sought c.args.args.now c.requires.calm c.requires.classes
    c.args.n c.in-Some.b c.method_at-old.result.now c.method_at-method.result.now c.method_at-old.ensures c.method_at-method.ensures
    (c.matches.ensures.0 (is_true c.matches.result c.if-not-matches.false))
    (λ below. refuted c.is_below.result c.if-is_below.false (c.is_below.ensures.1 below))
    (subst family c.in-Some.is c.requires.before)

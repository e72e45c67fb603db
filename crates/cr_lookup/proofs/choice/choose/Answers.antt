use Rattle.std.proofs.Common.{List, sym, subst, arith}
use Rattle.std.proofs.lemmas.Option.{slice_get_within}
use Rattle.cr_lookup.specs.declared.method.Method.{Method}
use Rattle.cr_lookup.specs.Methods.{IsCalm}
use Rattle.cr_lookup.proofs.Best.{calm_of}
use Rattle.cr_lookup.proofs.choice.choose.Goals as goal

pub least_at-requires-clause-calm : goal.least_at-requires-clause-calm
least_at-requires-clause-calm c =
    subst (λ (ms : List Method). IsCalm c.args.classes ms) (sym c.methods_of-here.ensures)
    (calm_of c.args.classes c.args.methods.now c.place_at.result c.requires.calm)

pub returns : goal.returns
returns c = λ k place e. let low = slice_get_within c.args.places.now k place e in c.loop-k.invariant k place (omega (arith, low)) e

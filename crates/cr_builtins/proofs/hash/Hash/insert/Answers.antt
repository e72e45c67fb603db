use Rattle.std.proofs.Common.{◌≡◌, ◌∙◌, ◌≤◌, ap, sym, subst, length}
use Rattle.cr_builtins.specs.declared.answer.TheConstants.{ENTRY_LIMIT}
use Rattle.cr_builtins.specs.Hashes.{Pairs, put}
use Rattle.cr_builtins.proofs.Pairs.{inserted}
use Rattle.cr_builtins.proofs.hash.Hash.insert.Goals as goal

pub invariant_of-self-2 : goal.invariant_of-self-2
invariant_of-self-2 c =
    let now : c.insert.new.self.entries ≡ put c.args.key c.args.value c.args.self.now =
    c.in_ok-insert.ensures.entries ∙ inserted c.args.key c.args.value c.self.inside.pairs.entries ∙ ap (put c.args.key c.args.value) c.self.view_is in
    subst (λ (pairs : Pairs). length pairs ≤ ENTRY_LIMIT) (sym now) c.requires

pub returns-clause-ok : goal.returns-clause-ok
returns-clause-ok c =
    c.in_ok-insert.ensures.entries ∙ inserted c.args.key c.args.value c.self.inside.pairs.entries ∙ ap (put c.args.key c.args.value) c.self.view_is

use Rattle.std.proofs.Common.{List, sym, ap, ◌∙◌}
use Rattle.cr_grammar.specs.declared.tree.Tree.{Tree}
use Rattle.cr_making.specs.Part.{Part, members_of, statements_of}
use Rattle.cr_making.specs.Table.{parts}
use Rattle.cr_making.proofs.Tables.{facet, part_Statements, no_list_members, no_list_statements}
use Rattle.cr_rewrite.proofs.program.list_of.Goals as goal

pub returns-in-Statements-clause-members : goal.returns-in-Statements-clause-members
returns-in-Statements-clause-members c = ap (λ (ts : List Tree). members_of (parts ts)) c.as_slice.ensures ∙ facet (λ (p : Part). p.list_members) c.in-Statements.is (part_Statements _)

pub returns-in-Statements-clause-statements : goal.returns-in-Statements-clause-statements
returns-in-Statements-clause-statements c = ap (λ (ts : List Tree). statements_of (parts ts)) c.as_slice.ensures ∙ facet (λ (p : Part). p.list_statements) c.in-Statements.is (part_Statements _)

pub returns-in_default-clause-members : goal.returns-in_default-clause-members
returns-in_default-clause-members c = sym (no_list_members c.args.tree.now c.in_default.not-Statements)

pub returns-in_default-clause-statements : goal.returns-in_default-clause-statements
returns-in_default-clause-statements c = sym (no_list_statements c.args.tree.now c.in_default.not-Statements)

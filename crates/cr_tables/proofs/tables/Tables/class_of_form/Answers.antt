use Rattle.std.proofs.Common.{◌∙◌, Some, sym, ap, arith}
use Rattle.cr_core.specs.declared.form.Form.{Form}
use Rattle.cr_tables.specs.Types.{named_class}
use Rattle.cr_tables.proofs.Kept.{at_now, named_atom, named_within, named_is}
use Rattle.cr_tables.proofs.tables.Tables.class_of_form.Goals as goal

pub index-requires : goal.index-requires
index-requires c =
    let t = at_now _ _ _ c.self.view_is c.self.invariant in
    let low = named_within c.args.self.now c.self.inside.named.items c.in-Atom.name.0 t.named
    (named_atom c.args.self.now c.args.form c.in-Atom.name c.in-Atom.is c.requires) in
    omega (arith, low)

pub returns-in-Atom : goal.returns-in-Atom
returns-in-Atom c =
    let t = at_now _ _ _ c.self.view_is c.self.invariant in
    named_is c.args.self.now c.self.inside.named.items c.in-Atom.name c.index.result.now t.named
    (named_atom c.args.self.now c.args.form c.in-Atom.name c.in-Atom.is c.requires) c.index.ensures
    ∙ sym (ap (λ (form : Form). named_class c.args.self.now (Some form)) c.in-Atom.is)

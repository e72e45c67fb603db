-- Core forms of names, calls, operators, literals and texts.
use Rattle.std.specs.Prelude.{ℕ, zero, suc, List, [], ◌∷◌, Option, Some, None, Bool, true, false, codes}
use Rattle.cr_base.specs.declared.ids.NameId.{NameId}
use Rattle.cr_grammar.specs.declared.operator.Binary.{Binary}
use Rattle.cr_grammar.specs.declared.operator.Binary.TheVariants as b
use Rattle.cr_grammar.specs.declared.operator.Unary.{Unary}
use Rattle.cr_grammar.specs.declared.operator.Unary.TheVariants as u
use Rattle.cr_core.specs.declared.form.Form.{Form}
use Rattle.cr_core.specs.declared.form.Form.TheVariants as f
use Rattle.cr_core.specs.declared.form.Local.{Local}
use Rattle.cr_core.specs.declared.form.ScopeId.{ScopeId}
use Rattle.cr_core.specs.declared.form.TextId.{TextId}
use Rattle.cr_making.specs.Naming.{named, literal, found, passed, later_local}
use Rattle.cr_making.specs.declared.naming.Passed.{Passed}
use Rattle.cr_making.specs.Making.{Making, nothing, ◌▸◌, wrapped, leaf, using, scoped, nest_left}
use Rattle.cr_making.specs.declared.words.Word.{Word}
use Rattle.cr_making.specs.declared.words.Word.TheVariants.{Puts, Raise, NoWord}
use Rattle.cr_making.specs.Words.{word_of, operator, index_name, variable, path_name}
use Rattle.cr_making.specs.Part.{Part, each, maybe, terms, held, is_there, held_block, statements, union, held_union}

-- ---- calls

-- a call of this name
unfoldable pub called : ℕ → List ℕ → Bool → Bool → Making → Making
called at name receiver block parts = using (named name) (λ (id : NameId). wrapped (f.Call id receiver block) at parts)

-- a call with a receiver and maybe arguments
abbrev pub sent : ℕ → List ℕ → Making → Making
sent at name parts = called at name true false parts

unfoldable pub text : ℕ → List ℕ → Making
text at bytes = using (literal bytes) (λ (id : TextId). leaf (f.Text id) at)

-- a node with one part
unfoldable pub around : Form → ℕ → Part → Making
around form at p = wrapped form at p.own

-- `puts` is Puts("")
unfoldable pub empty_line : ℕ → Making
empty_line at = wrapped f.Puts at (text at [])

abbrev pub alone_by : Word → ℕ → NameId → Making
alone_by Puts at id = empty_line at
alone_by Raise at id = leaf (f.Call id false false) at
alone_by NoWord at id = leaf (f.Call id false false) at

abbrev pub local_or_alone : ℕ → List ℕ → NameId → Option Local → Making
local_or_alone at name id (Some local) = leaf (f.Local local) at
local_or_alone at name id None = alone_by (word_of name) at id

-- a name alone: a local, or a call
unfoldable pub name_alone : ℕ → List ℕ → Making
name_alone at name = using (named name) (λ (id : NameId). using (found id) (λ (l : Option Local). local_or_alone at name id l))

-- `puts e` is Puts(e), `raise e` is Raise(e)
abbrev pub with_one_by : Word → ℕ → List ℕ → Part → Making
with_one_by Puts at name p = around f.Puts at p
with_one_by Raise at name p = around f.Raise at p
with_one_by NoWord at name p = called at name false false p.own

abbrev pub bare_call : ℕ → List ℕ → List Part → Making
bare_call at name [] = name_alone at name
bare_call at name (p ∷ []) = with_one_by (word_of name) at name p
bare_call at name ps = called at name false false (terms ps)

-- a call with its receiver, its arguments and its block
unfoldable pub full_call : ℕ → Option Part → List ℕ → List Part → Option Part → Making
full_call at receiver name ps «block» = called at name (is_there receiver) (is_there «block») (held receiver ▸ terms ps ▸ held_block at «block»)

abbrev pub call : ℕ → Option Part → List ℕ → List Part → Option Part → Making
call at None name ps None = bare_call at name ps
call at receiver name ps «block» = full_call at receiver name ps «block»

-- a[i] and a[i]?
unfoldable pub index : ℕ → Part → List Part → Bool → Making
index at a ps question = sent at (index_name question) (a.own ▸ terms ps)

-- ---- operators

unfoldable pub operation : ℕ → List ℕ → Part → Part → Making
operation at name l r = sent at name (l.own ▸ r.own)

unfoldable pub both : Form → ℕ → Part → Part → Making
both form at l r = wrapped form at (l.own ▸ r.own)

unfoldable pub not_equal : ℕ → Part → Part → Making
not_equal at l r = wrapped f.Not at (operation at (codes "==") l r)

abbrev pub binary : ℕ → Binary → Part → Part → Making
binary at b.And l r = both f.And at l r
binary at b.Or l r = both f.Or at l r
binary at b.NotEqual l r = not_equal at l r
binary at op l r = operation at (operator op) l r

unfoldable pub negate : ℕ → Part → Making
negate at x = sent at (codes "-") x.own

abbrev pub unary : ℕ → Unary → Part → Making
unary at u.Not x = around f.Not at x
unary at u.Negate x = negate at x

-- ---- types

-- a class with its written arguments
unfoldable pub atom : ℕ → List (List ℕ) → List Part → Making
atom at path ps = using (named (path_name path)) (λ (id : NameId). wrapped (f.Atom id) at (each (union at) ps))

unfoldable pub nil_atom : ℕ → Making
nil_atom at = using (named (codes "Nil")) (λ (id : NameId). leaf (f.Atom id) at)

-- e.nil? is IsA(e, Nil)
unfoldable pub is_nil : ℕ → Part → Making
is_nil at x = wrapped f.IsA at (x.own ▸ nil_atom at)

unfoldable pub is_a : ℕ → Part → Part → Making
is_a at x type = wrapped f.IsA at (x.own ▸ type.atoms)

-- ---- what makes a value

unfoldable pub field : ℕ → List ℕ → Making
field at name = using (named (variable name)) (λ (id : NameId). leaf (f.Field id) at)

unfoldable pub new : ℕ → Part → Bool → List Part → Option Part → Making
new at class question ps «block» = wrapped (f.New question (is_there «block»)) at (class.class ▸ terms ps ▸ held_block at «block»)

unfoldable pub array : ℕ → List Part → Option Part → Making
array at elements type = wrapped (f.Array (is_there type)) at (terms elements ▸ held_union at type)

-- a key and a value, or their types
unfoldable pub two : Part → Part → Making
two key value = key.own ▸ value.own

unfoldable pub two_unions : ℕ → Part → Part → Making
two_unions at key value = union at key ▸ union at value

unfoldable pub no_unions : ℕ → Making
no_unions at = leaf f.Union at ▸ leaf f.Union at

abbrev pub held_types : ℕ → Option Part → Making
held_types at = maybe (λ (p : Part). p.pair_types at)

unfoldable pub hash : ℕ → List Part → Option Part → Making
hash at entries types = wrapped (f.Hash (is_there types)) at (each (λ (p : Part). p.pair) entries ▸ held_types at types)

-- "a#{e}b": Call(Call("a", +, Call(e, to_s)), +, "b")
unfoldable pub insertion : ℕ → NameId → Part → Making
insertion at to_s p = wrapped (f.Call to_s true false) at p.own

abbrev pub insertions_with : ℕ → NameId → List (List ℕ) → List Part → List Making
insertions_with at to_s (t ∷ ts) (e ∷ es) = insertion at to_s e ∷ text at t ∷ insertions_with at to_s ts es
insertions_with at to_s ts es = []

abbrev pub joined_text : ℕ → NameId → NameId → List (List ℕ) → List Part → Making
joined_text at plus to_s [] es = leaf f.Nil at
joined_text at plus to_s (t ∷ ts) es = nest_left (f.Call plus true false) at (text at t) (insertions_with at to_s ts es)

unfoldable pub insertions : ℕ → List (List ℕ) → List Part → Making
insertions at ts es = using (named (codes "+")) (λ (plus : NameId). using (named (codes "to_s")) (λ (to_s : NameId). joined_text at plus to_s ts es))

-- ---- blocks, and what calls and begins them

-- a scope that sees those around it, with its parameters
unfoldable pub block : ℕ → List Part → List Part → Making
block at parameters body = scoped (λ (scope : ScopeId). wrapped (f.Block scope) at (each (λ (p : Part). p.parameter) parameters ▸ statements at body))

unfoldable pub spawn : ℕ → Option Part → List Part → Making
spawn at context body = wrapped (f.Spawn (is_there context)) at (held context ▸ block at [] body)

-- so many locals in a row
abbrev pub locals_from : ℕ → Local → ℕ → ℕ → Making
locals_from at first n zero = nothing
locals_from at first n (suc more) = leaf (f.Local (later_local first n)) at ▸ locals_from at first (suc n) more

abbrev pub locals : ℕ → Local → ℕ → Making
locals at first count = locals_from at first 0 count

-- bare `super` has the parameters' locals
unfoldable pub bare_super : ℕ → Making
bare_super at = using passed (λ (p : Passed). wrapped f.Super at (locals at p.first p.count))

unfoldable pub yield : ℕ → List Part → Making
yield at ps = wrapped f.Yield at (terms ps)

unfoldable pub super : ℕ → List Part → Making
super at ps = wrapped f.Super at (terms ps)

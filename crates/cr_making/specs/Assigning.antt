-- Core forms of assignments.
use Rattle.std.specs.Prelude.{ℕ, suc, length, List, [], ◌∷◌, Option, Some, None, Bool, true, false, codes}
use Rattle.cr_base.specs.declared.ids.NameId.{NameId}
use Rattle.cr_grammar.specs.declared.operator.Assignment.{Assignment}
use Rattle.cr_grammar.specs.declared.operator.Assignment.TheVariants as a
use Rattle.cr_core.specs.declared.form.Form.{Form}
use Rattle.cr_core.specs.declared.form.Form.TheVariants as f
use Rattle.cr_core.specs.declared.form.Local.{Local}
use Rattle.cr_making.specs.Naming.{named, declared, target, fresh, later_local}
use Rattle.cr_making.specs.Making.{Making, ◌▸◌, wrapped, leaf, using, all, Ahead, ahead, nest}
use Rattle.cr_making.specs.Words.{assigned_operator, setter, variable}
use Rattle.cr_making.specs.Part.{Head, NoHead, Called, Element, Variable}
use Rattle.cr_making.specs.Terms.{sent, locals}

-- ---- x = v; x ||= v is Or(x, x = v); x += v is x = x + v

unfoldable pub compound : Assignment → ℕ → Form → Form → Making → Making
compound op mark get set v = wrapped set mark (sent mark (assigned_operator op) (leaf get mark ▸ v))

unfoldable pub put : Form → ℕ → Making → Making
put set at v = wrapped set at v

unfoldable pub put_or : ℕ → Form → Form → Making → Making
put_or mark get set v = wrapped f.Or mark (leaf get mark ▸ put set mark v)

abbrev pub assigned : ℕ → Assignment → ℕ → Form → Form → Making → Making
assigned at a.Plain mark get set v = put set at v
assigned at a.Or mark get set v = put_or mark get set v
assigned at op mark get set v = compound op mark get set v

-- an assignment before makes the name a local
unfoldable pub assign_name : ℕ → List ℕ → Assignment → ℕ → Making → Making
assign_name at name op mark v = using (named name) (λ (id : NameId). using (target id) (λ (l : Local). assigned at op mark (f.Local l) (f.Set l) v))

unfoldable pub assign_variable : ℕ → List ℕ → Assignment → ℕ → Making → Making
assign_variable at name op mark v = using (named (variable name)) (λ (id : NameId). assigned at op mark (f.Field id) (f.SetField id) v)

-- ---- r.x = v is a call; r.x += v is Seq(t = r, Call(t, x=, Call(Call(t, x), +, v))) with a fresh t

unfoldable pub set_attribute : ℕ → Making → List ℕ → Making → Making
set_attribute at r name v = sent at (setter name) (r ▸ v)

unfoldable pub change_attribute : Making → List ℕ → Assignment → ℕ → Making → Making
change_attribute r name op mark v = using (declared None) (λ (t : Local). wrapped f.Seq mark (
    wrapped (f.Set t) mark r
    ▸ sent mark (setter name) (leaf (f.Local t) mark ▸ sent mark (assigned_operator op) (sent mark name (leaf (f.Local t) mark) ▸ v))))

abbrev pub assign_attribute : ℕ → Making → List ℕ → Assignment → ℕ → Making → Making
assign_attribute at r name a.Plain mark v = set_attribute at r name v
assign_attribute at r name op mark v = change_attribute r name op mark v

-- ---- r[i] = v is a call; r[i] += v is Seq(t = r, Seq(u = i, Call(t, []=, u, Call(Call(t, [], u), +, v)))) with fresh
-- t and u

unfoldable pub set_element : ℕ → Making → List Making → Making → Making
set_element at r is v = sent at (codes "[]=") (r ▸ all is ▸ v)

-- the indexes are put into the locals behind t, one after the other
abbrev pub kept_indexes : ℕ → Local → ℕ → List Making → List Ahead
kept_indexes mark t n [] = []
kept_indexes mark t n (i ∷ is) = ahead mark (wrapped (f.Set (later_local t n)) mark i) ∷ kept_indexes mark t (suc n) is

unfoldable pub put_element : Assignment → ℕ → Local → ℕ → Making → Making
put_element op mark t count v =
    sent mark (codes "[]=") (leaf (f.Local t) mark ▸ locals mark (later_local t 1) count
    ▸ sent mark (assigned_operator op) (sent mark (codes "[]") (leaf (f.Local t) mark ▸ locals mark (later_local t 1) count) ▸ v))

unfoldable pub keep_and_put : List Making → Assignment → ℕ → Local → Making → Making
keep_and_put is op mark t v = nest f.Seq (kept_indexes mark t 1 is) (put_element op mark t (length is) v)

unfoldable pub change_element : Making → List Making → Assignment → ℕ → Making → Making
change_element r is op mark v = using (fresh (length is)) (λ (t : Local). wrapped f.Seq mark (
    wrapped (f.Set t) mark r ▸ keep_and_put is op mark t v))

abbrev pub assign_element : ℕ → Making → List Making → Assignment → ℕ → Making → Making
assign_element at r is a.Plain mark v = set_element at r is v
assign_element at r is op mark v = change_element r is op mark v

abbrev pub assign_bare : ℕ → ℕ → Option Making → List ℕ → Assignment → ℕ → Making → Making
assign_bare at place None name op mark v = assign_name at name op mark v
assign_bare at place (Some r) name op mark v = assign_attribute place r name op mark v

abbrev pub assign_call : ℕ → ℕ → Option Making → List ℕ → Bool → Assignment → ℕ → Making → Making
assign_call at place r name true op mark v = assign_bare at place r name op mark v
assign_call at place r name false op mark v = leaf f.Nil at

abbrev pub assign_index : ℕ → ℕ → Making → List Making → Bool → Assignment → ℕ → Making → Making
assign_index at place r is false op mark v = assign_element place r is op mark v
assign_index at place r is true op mark v = leaf f.Nil at

-- by what stands before the operator
abbrev pub assign : ℕ → Head → Assignment → ℕ → Making → Making
assign at (Called place r name arguments bare) op mark v = assign_call at place r name bare op mark v
assign at (Element place r is question) op mark v = assign_index at place r is question op mark v
assign at (Variable name) op mark v = assign_variable at name op mark v
assign at NoHead op mark v = leaf f.Nil at

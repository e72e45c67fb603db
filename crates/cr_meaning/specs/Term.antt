-- Terms: core trees some of whose parts are values.
use Rattle.std.specs.Prelude.{ℕ, zero, suc, ◌-◌, true, false, List, [], ◌∷◌, Option, Some, None, length, slice_get, unwrap_or}
use Rattle.cr_base.specs.declared.ids.NodeId.{NodeId}
use Rattle.cr_value.specs.declared.value.Value.{Value}
use Rattle.cr_value.specs.declared.value.Value.TheVariants.{Nil, Flag, Small, Big, Word}
use Rattle.cr_core.specs.declared.form.Form.{Form}
use Rattle.cr_core.specs.declared.form.Form.TheVariants as f
use Rattle.cr_core.specs.declared.row.Row.{Row}
use Rattle.cr_meaning.specs.World.{World}

mutual
  pub data Term : Type 0 where
    Val : Value → Term
    Node : (n : NodeId) (form : Form) (parts : Terms) → Term  -- a core node, some of whose parts may be values
    Turn : (fresh now : Term) → Term  -- a turn of a loop, with what each turn begins with
    Frame : (gives : Option Value) (body : Term) → Term  -- a call in progress; that of an `initialize` gives its object
    Body : Term → Term  -- a block in progress
    Sent : (channel item : ℕ) → Term  -- a send whose item stands in the channel

  pub data Terms : Type 0 where
    none : Terms
    part : Term → Terms → Terms

-- what a literal is; any other node is none
abbrev pub literal : World → Form → Option Value
literal P f.Nil = Some Nil
literal P f.True = Some (Flag true)
literal P f.False = Some (Flag false)
literal P (f.Int32 n) = Some (Small n)
literal P (f.Int64 n) = Some (Big n)
literal P (f.Text text) = Some (Word (unwrap_or (slice_get P.texts text.0) []))
literal P other = None

abbrev pub node_by : Option Value → NodeId → Form → Terms → Term
node_by (Some v) n form ps = Val v
node_by None n form ps = Node n form ps

-- the core tree of a node
abbrev pub terms_by : (NodeId → Term) → List NodeId → Terms
terms_by g [] = none
terms_by g (n ∷ ns) = part (g n) (terms_by g ns)

abbrev pub tree_by : World → (NodeId → Term) → NodeId → Option Row → Term
tree_by P g n None = Val Nil
tree_by P g n (Some r) = node_by (literal P r.form) n r.form (terms_by g r.parts)

abbrev pub tree_to : World → ℕ → NodeId → Term
tree_to P zero n = Val Nil
tree_to P (suc depth) n = tree_by P (tree_to P depth) n (slice_get P.rows n.0)

-- Each part has a greater number, so that no tree is deeper than so many rows.
unfoldable pub tree : World → NodeId → Term
tree P n = tree_to P (length P.rows - n.0) n

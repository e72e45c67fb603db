-- What is made of each construct, one layer at a time.
use Rattle.std.proofs.Common.{◌≡◌, ℕ, ℤ, Bool, true, false, List, [], Option, Some, None, refl, sym, ap, ◌∙◌}
use Rattle.cr_grammar.specs.declared.operator.Binary.{Binary}
use Rattle.cr_grammar.specs.declared.operator.Unary.{Unary}
use Rattle.cr_grammar.specs.declared.operator.Assignment.{Assignment}
use Rattle.cr_grammar.specs.declared.tree.Tree.{Tree, roll-Tree, map-Tree, fold-roll-Tree, ind-Tree}
use Rattle.cr_grammar.specs.declared.tree.Tree.TheOpen.{Tree-F}
use Rattle.cr_grammar.specs.declared.tree.Tree.TheVariants as t
use Rattle.cr_core.specs.declared.form.Form.{Form}
use Rattle.cr_making.specs.Making.{Making, nothing}
use Rattle.cr_making.specs.Part.{Part, Head, NoHead}
use Rattle.cr_making.specs.Table.{part, part_level, parts, maybe_part, maybe_parts, nils}
use Rattle.cr_making.specs.Terms as e
use Rattle.cr_making.specs.Control as c

part_at : (x : Tree) (l : Tree-F Tree) → x ≡ roll-Tree l → part x ≡ part_level (map-Tree Tree Part part l)
part_at x l is = ap part is ∙ fold-roll-Tree Part part_level l

-- a view of what is made of a construct of this layer
pub facet : {A : Type 0} {x y : Tree} {p : Part} (h : Part → A) → x ≡ y → part y ≡ p → h p ≡ h (part x)
facet {A} {x} {y} {p} h is level = sym (ap (λ (z : Tree). h (part z)) is ∙ ap h level)

-- ---- each construct

pub part_Statements : (list : List Tree) → part (t.Statements list) ≡ part_level (Tree-F.Statements (parts list))
part_Statements list = part_at (t.Statements list) (Tree-F.Statements list) (sym (t.rolls-Statements list))

pub part_Union : (atoms : List Tree) → part (t.Union atoms) ≡ part_level (Tree-F.Union (parts atoms))
part_Union atoms = part_at (t.Union atoms) (Tree-F.Union atoms) (sym (t.rolls-Union atoms))

pub part_Block : (parameters : List Tree) (list : List Tree) → part (t.Block parameters list) ≡ part_level (Tree-F.Block (parts parameters) (parts list))
part_Block parameters list = part_at (t.Block parameters list) (Tree-F.Block parameters list) (sym (t.rolls-Block parameters list))

pub part_Pair : (key : Tree) (value : Tree) → part (t.Pair key value) ≡ part_level (Tree-F.Pair (part key) (part value))
part_Pair key value = part_at (t.Pair key value) (Tree-F.Pair key value) (sym (t.rolls-Pair key value))

pub part_Branch : (at : ℕ) (condition : Tree) (list : List Tree) → part (t.Branch at condition list) ≡ part_level (Tree-F.Branch at (part condition) (parts list))
part_Branch at condition list = part_at (t.Branch at condition list) (Tree-F.Branch at condition list) (sym (t.rolls-Branch at condition list))

pub part_In : (at : ℕ) (types : List Tree) (list : List Tree) → part (t.In at types list) ≡ part_level (Tree-F.In at (parts types) (parts list))
part_In at types list = part_at (t.In at types list) (Tree-F.In at types list) (sym (t.rolls-In at types list))

pub part_When : (at : ℕ) (target : Option Tree) (operation : Tree) (list : List Tree) → part (t.When at target operation list) ≡ part_level (Tree-F.When at (maybe_part target) (part operation) (parts list))
part_When at None operation list = part_at (t.When at None operation list) (Tree-F.When at None operation list) (sym (t.rolls-When at None operation list))
part_When at (Some target) operation list = part_at (t.When at (Some target) operation list) (Tree-F.When at (Some target) operation list) (sym (t.rolls-When at (Some target) operation list))

pub part_Atom : (at : ℕ) (path : List (List ℕ)) (arguments : List Tree) → part (t.Atom at path arguments) ≡ part_level (Tree-F.Atom at path (parts arguments))
part_Atom at path arguments = part_at (t.Atom at path arguments) (Tree-F.Atom at path arguments) (sym (t.rolls-Atom at path arguments))

pub part_Parameter : (at : ℕ) (is_instance : Bool) (word : List ℕ) (restriction : Option Tree) → part (t.Parameter at is_instance word restriction) ≡ part_level (Tree-F.Parameter at is_instance word (maybe_part restriction))
part_Parameter at is_instance word None = part_at (t.Parameter at is_instance word None) (Tree-F.Parameter at is_instance word None) (sym (t.rolls-Parameter at is_instance word None))
part_Parameter at is_instance word (Some restriction) = part_at (t.Parameter at is_instance word (Some restriction)) (Tree-F.Parameter at is_instance word (Some restriction)) (sym (t.rolls-Parameter at is_instance word (Some restriction)))

pub part_Int32 : (at : ℕ) (value : ℤ) → part (t.Int32 at value) ≡ part_level (Tree-F.Int32 at value)
part_Int32 at value = part_at (t.Int32 at value) (Tree-F.Int32 at value) (sym (t.rolls-Int32 at value))

pub part_Int64 : (at : ℕ) (value : ℤ) → part (t.Int64 at value) ≡ part_level (Tree-F.Int64 at value)
part_Int64 at value = part_at (t.Int64 at value) (Tree-F.Int64 at value) (sym (t.rolls-Int64 at value))

pub part_Text : (at : ℕ) (text : List ℕ) → part (t.Text at text) ≡ part_level (Tree-F.Text at text)
part_Text at text = part_at (t.Text at text) (Tree-F.Text at text) (sym (t.rolls-Text at text))

pub part_Insertions : (at : ℕ) (texts : List (List ℕ)) (inserted : List Tree) → part (t.Insertions at texts inserted) ≡ part_level (Tree-F.Insertions at texts (parts inserted))
part_Insertions at texts inserted = part_at (t.Insertions at texts inserted) (Tree-F.Insertions at texts inserted) (sym (t.rolls-Insertions at texts inserted))

pub part_Nil : (at : ℕ) → part (t.Nil at) ≡ part_level (Tree-F.Nil at)
part_Nil at = part_at (t.Nil at) (Tree-F.Nil at) (sym (t.rolls-Nil at))

pub part_True : (at : ℕ) → part (t.True at) ≡ part_level (Tree-F.True at)
part_True at = part_at (t.True at) (Tree-F.True at) (sym (t.rolls-True at))

pub part_False : (at : ℕ) → part (t.False at) ≡ part_level (Tree-F.False at)
part_False at = part_at (t.False at) (Tree-F.False at) (sym (t.rolls-False at))

pub part_KeywordSelf : (at : ℕ) → part (t.KeywordSelf at) ≡ part_level (Tree-F.KeywordSelf at)
part_KeywordSelf at = part_at (t.KeywordSelf at) (Tree-F.KeywordSelf at) (sym (t.rolls-KeywordSelf at))

pub part_InstanceVariable : (at : ℕ) (word : List ℕ) → part (t.InstanceVariable at word) ≡ part_level (Tree-F.InstanceVariable at word)
part_InstanceVariable at word = part_at (t.InstanceVariable at word) (Tree-F.InstanceVariable at word) (sym (t.rolls-InstanceVariable at word))

pub part_Array : (at : ℕ) (elements : List Tree) (element : Option Tree) → part (t.Array at elements element) ≡ part_level (Tree-F.Array at (parts elements) (maybe_part element))
part_Array at elements None = part_at (t.Array at elements None) (Tree-F.Array at elements None) (sym (t.rolls-Array at elements None))
part_Array at elements (Some element) = part_at (t.Array at elements (Some element)) (Tree-F.Array at elements (Some element)) (sym (t.rolls-Array at elements (Some element)))

pub part_Hash : (at : ℕ) (entries : List Tree) (entry : Option Tree) → part (t.Hash at entries entry) ≡ part_level (Tree-F.Hash at (parts entries) (maybe_part entry))
part_Hash at entries None = part_at (t.Hash at entries None) (Tree-F.Hash at entries None) (sym (t.rolls-Hash at entries None))
part_Hash at entries (Some entry) = part_at (t.Hash at entries (Some entry)) (Tree-F.Hash at entries (Some entry)) (sym (t.rolls-Hash at entries (Some entry)))

pub part_Call : (at : ℕ) (receiver : Option Tree) (word : List ℕ) (arguments : List Tree) (blk : Option Tree) → part (t.Call at receiver word arguments blk) ≡ part_level (Tree-F.Call at (maybe_part receiver) word (parts arguments) (maybe_part blk))
part_Call at None word arguments None = part_at (t.Call at None word arguments None) (Tree-F.Call at None word arguments None) (sym (t.rolls-Call at None word arguments None))
part_Call at None word arguments (Some blk) = part_at (t.Call at None word arguments (Some blk)) (Tree-F.Call at None word arguments (Some blk)) (sym (t.rolls-Call at None word arguments (Some blk)))
part_Call at (Some receiver) word arguments None = part_at (t.Call at (Some receiver) word arguments None) (Tree-F.Call at (Some receiver) word arguments None) (sym (t.rolls-Call at (Some receiver) word arguments None))
part_Call at (Some receiver) word arguments (Some blk) = part_at (t.Call at (Some receiver) word arguments (Some blk)) (Tree-F.Call at (Some receiver) word arguments (Some blk)) (sym (t.rolls-Call at (Some receiver) word arguments (Some blk)))

pub part_Index : (at : ℕ) (receiver : Tree) (arguments : List Tree) (question : Bool) → part (t.Index at receiver arguments question) ≡ part_level (Tree-F.Index at (part receiver) (parts arguments) question)
part_Index at receiver arguments question = part_at (t.Index at receiver arguments question) (Tree-F.Index at receiver arguments question) (sym (t.rolls-Index at receiver arguments question))

pub part_Binary : (at : ℕ) (operator : Binary) (left : Tree) (right : Tree) → part (t.Binary at operator left right) ≡ part_level (Tree-F.Binary at operator (part left) (part right))
part_Binary at operator left right = part_at (t.Binary at operator left right) (Tree-F.Binary at operator left right) (sym (t.rolls-Binary at operator left right))

pub part_Unary : (at : ℕ) (operator : Unary) (operand : Tree) → part (t.Unary at operator operand) ≡ part_level (Tree-F.Unary at operator (part operand))
part_Unary at operator operand = part_at (t.Unary at operator operand) (Tree-F.Unary at operator operand) (sym (t.rolls-Unary at operator operand))

pub part_IsNil : (at : ℕ) (value : Tree) → part (t.IsNil at value) ≡ part_level (Tree-F.IsNil at (part value))
part_IsNil at value = part_at (t.IsNil at value) (Tree-F.IsNil at value) (sym (t.rolls-IsNil at value))

pub part_IsA : (at : ℕ) (value : Tree) (type : Tree) → part (t.IsA at value type) ≡ part_level (Tree-F.IsA at (part value) (part type))
part_IsA at value type = part_at (t.IsA at value type) (Tree-F.IsA at value type) (sym (t.rolls-IsA at value type))

pub part_New : (at : ℕ) (named : Tree) (question : Bool) (arguments : List Tree) (blk : Option Tree) → part (t.New at named question arguments blk) ≡ part_level (Tree-F.New at (part named) question (parts arguments) (maybe_part blk))
part_New at named question arguments None = part_at (t.New at named question arguments None) (Tree-F.New at named question arguments None) (sym (t.rolls-New at named question arguments None))
part_New at named question arguments (Some blk) = part_at (t.New at named question arguments (Some blk)) (Tree-F.New at named question arguments (Some blk)) (sym (t.rolls-New at named question arguments (Some blk)))

pub part_Pause : (at : ℕ) → part (t.Pause at) ≡ part_level (Tree-F.Pause at)
part_Pause at = part_at (t.Pause at) (Tree-F.Pause at) (sym (t.rolls-Pause at))

pub part_Yield : (at : ℕ) (arguments : List Tree) → part (t.Yield at arguments) ≡ part_level (Tree-F.Yield at (parts arguments))
part_Yield at arguments = part_at (t.Yield at arguments) (Tree-F.Yield at arguments) (sym (t.rolls-Yield at arguments))

pub part_Super : (at : ℕ) (arguments : List Tree) → part (t.Super at arguments) ≡ part_level (Tree-F.Super at (parts arguments))
part_Super at arguments = part_at (t.Super at arguments) (Tree-F.Super at arguments) (sym (t.rolls-Super at arguments))

pub part_BareSuper : (at : ℕ) → part (t.BareSuper at) ≡ part_level (Tree-F.BareSuper at)
part_BareSuper at = part_at (t.BareSuper at) (Tree-F.BareSuper at) (sym (t.rolls-BareSuper at))

pub part_Spawn : (at : ℕ) (context : Option Tree) (list : List Tree) → part (t.Spawn at context list) ≡ part_level (Tree-F.Spawn at (maybe_part context) (parts list))
part_Spawn at None list = part_at (t.Spawn at None list) (Tree-F.Spawn at None list) (sym (t.rolls-Spawn at None list))
part_Spawn at (Some context) list = part_at (t.Spawn at (Some context) list) (Tree-F.Spawn at (Some context) list) (sym (t.rolls-Spawn at (Some context) list))

pub part_If : (at : ℕ) (is_unless : Bool) (condition : Tree) (list : List Tree) (others : List Tree) (otherwise : Option (List Tree)) → part (t.If at is_unless condition list others otherwise) ≡ part_level (Tree-F.If at is_unless (part condition) (parts list) (parts others) (maybe_parts otherwise))
part_If at is_unless condition list others None = part_at (t.If at is_unless condition list others None) (Tree-F.If at is_unless condition list others None) (sym (t.rolls-If at is_unless condition list others None))
part_If at is_unless condition list others (Some otherwise) = part_at (t.If at is_unless condition list others (Some otherwise)) (Tree-F.If at is_unless condition list others (Some otherwise)) (sym (t.rolls-If at is_unless condition list others (Some otherwise)))

pub part_While : (at : ℕ) (is_until : Bool) (condition : Tree) (list : List Tree) → part (t.While at is_until condition list) ≡ part_level (Tree-F.While at is_until (part condition) (parts list))
part_While at is_until condition list = part_at (t.While at is_until condition list) (Tree-F.While at is_until condition list) (sym (t.rolls-While at is_until condition list))

pub part_Case : (at : ℕ) (value : Tree) (clauses : List Tree) → part (t.Case at value clauses) ≡ part_level (Tree-F.Case at (part value) (parts clauses))
part_Case at value clauses = part_at (t.Case at value clauses) (Tree-F.Case at value clauses) (sym (t.rolls-Case at value clauses))

pub part_Select : (at : ℕ) (clauses : List Tree) (otherwise : Option (List Tree)) → part (t.Select at clauses otherwise) ≡ part_level (Tree-F.Select at (parts clauses) (maybe_parts otherwise))
part_Select at clauses None = part_at (t.Select at clauses None) (Tree-F.Select at clauses None) (sym (t.rolls-Select at clauses None))
part_Select at clauses (Some otherwise) = part_at (t.Select at clauses (Some otherwise)) (Tree-F.Select at clauses (Some otherwise)) (sym (t.rolls-Select at clauses (Some otherwise)))

pub part_Assign : (at : ℕ) (target : Tree) (operator : Assignment) (operator_at : ℕ) (value : Tree) → part (t.Assign at target operator operator_at value) ≡ part_level (Tree-F.Assign at (part target) operator operator_at (part value))
part_Assign at target operator operator_at value = part_at (t.Assign at target operator operator_at value) (Tree-F.Assign at target operator operator_at value) (sym (t.rolls-Assign at target operator operator_at value))

pub part_Return : (at : ℕ) (value : Option Tree) → part (t.Return at value) ≡ part_level (Tree-F.Return at (maybe_part value))
part_Return at None = part_at (t.Return at None) (Tree-F.Return at None) (sym (t.rolls-Return at None))
part_Return at (Some value) = part_at (t.Return at (Some value)) (Tree-F.Return at (Some value)) (sym (t.rolls-Return at (Some value)))

pub part_Next : (at : ℕ) (value : Option Tree) → part (t.Next at value) ≡ part_level (Tree-F.Next at (maybe_part value))
part_Next at None = part_at (t.Next at None) (Tree-F.Next at None) (sym (t.rolls-Next at None))
part_Next at (Some value) = part_at (t.Next at (Some value)) (Tree-F.Next at (Some value)) (sym (t.rolls-Next at (Some value)))

pub part_Break : (at : ℕ) → part (t.Break at) ≡ part_level (Tree-F.Break at)
part_Break at = part_at (t.Break at) (Tree-F.Break at) (sym (t.rolls-Break at))

pub part_Class : (at : ℕ) (word : List ℕ) (parameters : List (List ℕ)) (superclass : Option (List ℕ)) (members : List Tree) → part (t.Class at word parameters superclass members) ≡ part_level (Tree-F.Class at word parameters superclass (parts members))
part_Class at word parameters superclass members = part_at (t.Class at word parameters superclass members) (Tree-F.Class at word parameters superclass members) (sym (t.rolls-Class at word parameters superclass members))

pub part_Module : (at : ℕ) (word : List ℕ) (members : List Tree) → part (t.Module at word members) ≡ part_level (Tree-F.Module at word (parts members))
part_Module at word members = part_at (t.Module at word members) (Tree-F.Module at word members) (sym (t.rolls-Module at word members))

pub part_Include : (at : ℕ) (word : List ℕ) → part (t.Include at word) ≡ part_level (Tree-F.Include at word)
part_Include at word = part_at (t.Include at word) (Tree-F.Include at word) (sym (t.rolls-Include at word))

pub part_Declaration : (at : ℕ) (word : List ℕ) (type : Tree) → part (t.Declaration at word type) ≡ part_level (Tree-F.Declaration at word (part type))
part_Declaration at word type = part_at (t.Declaration at word type) (Tree-F.Declaration at word type) (sym (t.rolls-Declaration at word type))

pub part_Accessors : (at : ℕ) (is_property : Bool) (accessors : List Tree) → part (t.Accessors at is_property accessors) ≡ part_level (Tree-F.Accessors at is_property (parts accessors))
part_Accessors at is_property accessors = part_at (t.Accessors at is_property accessors) (Tree-F.Accessors at is_property accessors) (sym (t.rolls-Accessors at is_property accessors))

pub part_Accessor : (at : ℕ) (word : List ℕ) (type : Option Tree) → part (t.Accessor at word type) ≡ part_level (Tree-F.Accessor at word (maybe_part type))
part_Accessor at word None = part_at (t.Accessor at word None) (Tree-F.Accessor at word None) (sym (t.rolls-Accessor at word None))
part_Accessor at word (Some type) = part_at (t.Accessor at word (Some type)) (Tree-F.Accessor at word (Some type)) (sym (t.rolls-Accessor at word (Some type)))

pub part_Def : (at : ℕ) (word : List ℕ) (parameters : List Tree) (result : Option Tree) (list : List Tree) → part (t.Def at word parameters result list) ≡ part_level (Tree-F.Def at word (parts parameters) (maybe_part result) (parts list))
part_Def at word parameters None list = part_at (t.Def at word parameters None list) (Tree-F.Def at word parameters None list) (sym (t.rolls-Def at word parameters None list))
part_Def at word parameters (Some result) list = part_at (t.Def at word parameters (Some result) list) (Tree-F.Def at word parameters (Some result) list) (sym (t.rolls-Def at word parameters (Some result) list))

-- ---- where a construct is no such part

by_layer : (P : Tree → Type 0) → ((l : Tree-F Tree) → P (roll-Tree l)) → (x : Tree) → P x
by_layer P h = ind-Tree P (λ l y is. h l)

pub no_members : (x : Tree) → ((at : ℕ) (word : List ℕ) (parameters : List (List ℕ)) (superclass : Option (List ℕ)) (members : List Tree) → x ≡ t.Class at word parameters superclass members → ⊥) → ((at : ℕ) (word : List ℕ) (members : List Tree) → x ≡ t.Module at word members → ⊥) → ((at : ℕ) (word : List ℕ) → x ≡ t.Include at word → ⊥) → ((at : ℕ) (word : List ℕ) (type : Tree) → x ≡ t.Declaration at word type → ⊥) → ((at : ℕ) (is_property : Bool) (accessors : List Tree) → x ≡ t.Accessors at is_property accessors → ⊥) → ((at : ℕ) (word : List ℕ) (parameters : List Tree) (result : Option Tree) (list : List Tree) → x ≡ t.Def at word parameters result list → ⊥) → (part x).members ≡ nothing
no_members = by_layer (λ (x : Tree). ((at : ℕ) (word : List ℕ) (parameters : List (List ℕ)) (superclass : Option (List ℕ)) (members : List Tree) → x ≡ t.Class at word parameters superclass members → ⊥) → ((at : ℕ) (word : List ℕ) (members : List Tree) → x ≡ t.Module at word members → ⊥) → ((at : ℕ) (word : List ℕ) → x ≡ t.Include at word → ⊥) → ((at : ℕ) (word : List ℕ) (type : Tree) → x ≡ t.Declaration at word type → ⊥) → ((at : ℕ) (is_property : Bool) (accessors : List Tree) → x ≡ t.Accessors at is_property accessors → ⊥) → ((at : ℕ) (word : List ℕ) (parameters : List Tree) (result : Option Tree) (list : List Tree) → x ≡ t.Def at word parameters result list → ⊥) → (part x).members ≡ nothing) (λ l n0 n1 n2 n3 n4 n5. ap (λ (p : Part). p.members) (fold-roll-Tree Part part_level l) ∙ level l n0 n1 n2 n3 n4 n5)
  where
    level : (l : Tree-F Tree) → ((at : ℕ) (word : List ℕ) (parameters : List (List ℕ)) (superclass : Option (List ℕ)) (members : List Tree) → roll-Tree l ≡ t.Class at word parameters superclass members → ⊥) → ((at : ℕ) (word : List ℕ) (members : List Tree) → roll-Tree l ≡ t.Module at word members → ⊥) → ((at : ℕ) (word : List ℕ) → roll-Tree l ≡ t.Include at word → ⊥) → ((at : ℕ) (word : List ℕ) (type : Tree) → roll-Tree l ≡ t.Declaration at word type → ⊥) → ((at : ℕ) (is_property : Bool) (accessors : List Tree) → roll-Tree l ≡ t.Accessors at is_property accessors → ⊥) → ((at : ℕ) (word : List ℕ) (parameters : List Tree) (result : Option Tree) (list : List Tree) → roll-Tree l ≡ t.Def at word parameters result list → ⊥) → (part_level (map-Tree Tree Part part l)).members ≡ nothing
    level (Tree-F.Class at word parameters superclass members) n0 n1 n2 n3 n4 n5 = absurd (n0 at word parameters superclass members (t.rolls-Class at word parameters superclass members))
    level (Tree-F.Module at word members) n0 n1 n2 n3 n4 n5 = absurd (n1 at word members (t.rolls-Module at word members))
    level (Tree-F.Include at word) n0 n1 n2 n3 n4 n5 = absurd (n2 at word (t.rolls-Include at word))
    level (Tree-F.Declaration at word type) n0 n1 n2 n3 n4 n5 = absurd (n3 at word type (t.rolls-Declaration at word type))
    level (Tree-F.Accessors at is_property accessors) n0 n1 n2 n3 n4 n5 = absurd (n4 at is_property accessors (t.rolls-Accessors at is_property accessors))
    level (Tree-F.Def at word parameters result list) n0 n1 n2 n3 n4 n5 = absurd (n5 at word parameters result list (t.rolls-Def at word parameters result list))
    level _ n0 n1 n2 n3 n4 n5 = refl

pub statement : (x : Tree) → ((at : ℕ) (word : List ℕ) (parameters : List (List ℕ)) (superclass : Option (List ℕ)) (members : List Tree) → x ≡ t.Class at word parameters superclass members → ⊥) → ((at : ℕ) (word : List ℕ) (members : List Tree) → x ≡ t.Module at word members → ⊥) → ((at : ℕ) (word : List ℕ) → x ≡ t.Include at word → ⊥) → ((at : ℕ) (word : List ℕ) (type : Tree) → x ≡ t.Declaration at word type → ⊥) → ((at : ℕ) (is_property : Bool) (accessors : List Tree) → x ≡ t.Accessors at is_property accessors → ⊥) → ((at : ℕ) (word : List ℕ) (parameters : List Tree) (result : Option Tree) (list : List Tree) → x ≡ t.Def at word parameters result list → ⊥) → (part x).is_statement ≡ true
statement = by_layer (λ (x : Tree). ((at : ℕ) (word : List ℕ) (parameters : List (List ℕ)) (superclass : Option (List ℕ)) (members : List Tree) → x ≡ t.Class at word parameters superclass members → ⊥) → ((at : ℕ) (word : List ℕ) (members : List Tree) → x ≡ t.Module at word members → ⊥) → ((at : ℕ) (word : List ℕ) → x ≡ t.Include at word → ⊥) → ((at : ℕ) (word : List ℕ) (type : Tree) → x ≡ t.Declaration at word type → ⊥) → ((at : ℕ) (is_property : Bool) (accessors : List Tree) → x ≡ t.Accessors at is_property accessors → ⊥) → ((at : ℕ) (word : List ℕ) (parameters : List Tree) (result : Option Tree) (list : List Tree) → x ≡ t.Def at word parameters result list → ⊥) → (part x).is_statement ≡ true) (λ l n0 n1 n2 n3 n4 n5. ap (λ (p : Part). p.is_statement) (fold-roll-Tree Part part_level l) ∙ level l n0 n1 n2 n3 n4 n5)
  where
    level : (l : Tree-F Tree) → ((at : ℕ) (word : List ℕ) (parameters : List (List ℕ)) (superclass : Option (List ℕ)) (members : List Tree) → roll-Tree l ≡ t.Class at word parameters superclass members → ⊥) → ((at : ℕ) (word : List ℕ) (members : List Tree) → roll-Tree l ≡ t.Module at word members → ⊥) → ((at : ℕ) (word : List ℕ) → roll-Tree l ≡ t.Include at word → ⊥) → ((at : ℕ) (word : List ℕ) (type : Tree) → roll-Tree l ≡ t.Declaration at word type → ⊥) → ((at : ℕ) (is_property : Bool) (accessors : List Tree) → roll-Tree l ≡ t.Accessors at is_property accessors → ⊥) → ((at : ℕ) (word : List ℕ) (parameters : List Tree) (result : Option Tree) (list : List Tree) → roll-Tree l ≡ t.Def at word parameters result list → ⊥) → (part_level (map-Tree Tree Part part l)).is_statement ≡ true
    level (Tree-F.Class at word parameters superclass members) n0 n1 n2 n3 n4 n5 = absurd (n0 at word parameters superclass members (t.rolls-Class at word parameters superclass members))
    level (Tree-F.Module at word members) n0 n1 n2 n3 n4 n5 = absurd (n1 at word members (t.rolls-Module at word members))
    level (Tree-F.Include at word) n0 n1 n2 n3 n4 n5 = absurd (n2 at word (t.rolls-Include at word))
    level (Tree-F.Declaration at word type) n0 n1 n2 n3 n4 n5 = absurd (n3 at word type (t.rolls-Declaration at word type))
    level (Tree-F.Accessors at is_property accessors) n0 n1 n2 n3 n4 n5 = absurd (n4 at is_property accessors (t.rolls-Accessors at is_property accessors))
    level (Tree-F.Def at word parameters result list) n0 n1 n2 n3 n4 n5 = absurd (n5 at word parameters result list (t.rolls-Def at word parameters result list))
    level _ n0 n1 n2 n3 n4 n5 = refl

pub no_atoms : (x : Tree) → ((atoms : List Tree) → x ≡ t.Union atoms → ⊥) → ((at : ℕ) (path : List (List ℕ)) (arguments : List Tree) → x ≡ t.Atom at path arguments → ⊥) → (part x).atoms ≡ nothing
no_atoms = by_layer (λ (x : Tree). ((atoms : List Tree) → x ≡ t.Union atoms → ⊥) → ((at : ℕ) (path : List (List ℕ)) (arguments : List Tree) → x ≡ t.Atom at path arguments → ⊥) → (part x).atoms ≡ nothing) (λ l n0 n1. ap (λ (p : Part). p.atoms) (fold-roll-Tree Part part_level l) ∙ level l n0 n1)
  where
    level : (l : Tree-F Tree) → ((atoms : List Tree) → roll-Tree l ≡ t.Union atoms → ⊥) → ((at : ℕ) (path : List (List ℕ)) (arguments : List Tree) → roll-Tree l ≡ t.Atom at path arguments → ⊥) → (part_level (map-Tree Tree Part part l)).atoms ≡ nothing
    level (Tree-F.Union atoms) n0 n1 = absurd (n0 atoms (t.rolls-Union atoms))
    level (Tree-F.Atom at path arguments) n0 n1 = absurd (n1 at path arguments (t.rolls-Atom at path arguments))
    level _ n0 n1 = refl

pub no_class : (x : Tree) → ((at : ℕ) (path : List (List ℕ)) (arguments : List Tree) → x ≡ t.Atom at path arguments → ⊥) → (part x).class ≡ e.nil_atom 0
no_class = by_layer (λ (x : Tree). ((at : ℕ) (path : List (List ℕ)) (arguments : List Tree) → x ≡ t.Atom at path arguments → ⊥) → (part x).class ≡ e.nil_atom 0) (λ l n0. ap (λ (p : Part). p.class) (fold-roll-Tree Part part_level l) ∙ level l n0)
  where
    level : (l : Tree-F Tree) → ((at : ℕ) (path : List (List ℕ)) (arguments : List Tree) → roll-Tree l ≡ t.Atom at path arguments → ⊥) → (part_level (map-Tree Tree Part part l)).class ≡ e.nil_atom 0
    level (Tree-F.Atom at path arguments) n0 = absurd (n0 at path arguments (t.rolls-Atom at path arguments))
    level _ n0 = refl

pub no_parameter : (x : Tree) → ((at : ℕ) (is_instance : Bool) (word : List ℕ) (restriction : Option Tree) → x ≡ t.Parameter at is_instance word restriction → ⊥) → (part x).parameter ≡ nothing
no_parameter = by_layer (λ (x : Tree). ((at : ℕ) (is_instance : Bool) (word : List ℕ) (restriction : Option Tree) → x ≡ t.Parameter at is_instance word restriction → ⊥) → (part x).parameter ≡ nothing) (λ l n0. ap (λ (p : Part). p.parameter) (fold-roll-Tree Part part_level l) ∙ level l n0)
  where
    level : (l : Tree-F Tree) → ((at : ℕ) (is_instance : Bool) (word : List ℕ) (restriction : Option Tree) → roll-Tree l ≡ t.Parameter at is_instance word restriction → ⊥) → (part_level (map-Tree Tree Part part l)).parameter ≡ nothing
    level (Tree-F.Parameter at is_instance word restriction) n0 = absurd (n0 at is_instance word restriction (t.rolls-Parameter at is_instance word restriction))
    level _ n0 = refl

pub no_fields : (x : Tree) → ((at : ℕ) (is_instance : Bool) (word : List ℕ) (restriction : Option Tree) → x ≡ t.Parameter at is_instance word restriction → ⊥) → (part x).fields ≡ nothing
no_fields = by_layer (λ (x : Tree). ((at : ℕ) (is_instance : Bool) (word : List ℕ) (restriction : Option Tree) → x ≡ t.Parameter at is_instance word restriction → ⊥) → (part x).fields ≡ nothing) (λ l n0. ap (λ (p : Part). p.fields) (fold-roll-Tree Part part_level l) ∙ level l n0)
  where
    level : (l : Tree-F Tree) → ((at : ℕ) (is_instance : Bool) (word : List ℕ) (restriction : Option Tree) → roll-Tree l ≡ t.Parameter at is_instance word restriction → ⊥) → (part_level (map-Tree Tree Part part l)).fields ≡ nothing
    level (Tree-F.Parameter at is_instance word restriction) n0 = absurd (n0 at is_instance word restriction (t.rolls-Parameter at is_instance word restriction))
    level _ n0 = refl

pub no_field : (x : Tree) → ((at : ℕ) (is_instance : Bool) (word : List ℕ) (restriction : Option Tree) → x ≡ t.Parameter at is_instance word restriction → ⊥) → (part x).is_field ≡ false
no_field = by_layer (λ (x : Tree). ((at : ℕ) (is_instance : Bool) (word : List ℕ) (restriction : Option Tree) → x ≡ t.Parameter at is_instance word restriction → ⊥) → (part x).is_field ≡ false) (λ l n0. ap (λ (p : Part). p.is_field) (fold-roll-Tree Part part_level l) ∙ level l n0)
  where
    level : (l : Tree-F Tree) → ((at : ℕ) (is_instance : Bool) (word : List ℕ) (restriction : Option Tree) → roll-Tree l ≡ t.Parameter at is_instance word restriction → ⊥) → (part_level (map-Tree Tree Part part l)).is_field ≡ false
    level (Tree-F.Parameter at is_instance word restriction) n0 = absurd (n0 at is_instance word restriction (t.rolls-Parameter at is_instance word restriction))
    level _ n0 = refl

pub not_kept : (x : Tree) → ((at : ℕ) (is_instance : Bool) (word : List ℕ) (restriction : Option Tree) → x ≡ t.Parameter at is_instance word restriction → ⊥) → (part x).kept ≡ nothing
not_kept = by_layer (λ (x : Tree). ((at : ℕ) (is_instance : Bool) (word : List ℕ) (restriction : Option Tree) → x ≡ t.Parameter at is_instance word restriction → ⊥) → (part x).kept ≡ nothing) (λ l n0. ap (λ (p : Part). p.kept) (fold-roll-Tree Part part_level l) ∙ level l n0)
  where
    level : (l : Tree-F Tree) → ((at : ℕ) (is_instance : Bool) (word : List ℕ) (restriction : Option Tree) → roll-Tree l ≡ t.Parameter at is_instance word restriction → ⊥) → (part_level (map-Tree Tree Part part l)).kept ≡ nothing
    level (Tree-F.Parameter at is_instance word restriction) n0 = absurd (n0 at is_instance word restriction (t.rolls-Parameter at is_instance word restriction))
    level _ n0 = refl

pub no_block : (at : ℕ) → (x : Tree) → ((parameters : List Tree) (list : List Tree) → x ≡ t.Block parameters list → ⊥) → (part x).block at ≡ e.block at [] []
no_block at = by_layer (λ (x : Tree). ((parameters : List Tree) (list : List Tree) → x ≡ t.Block parameters list → ⊥) → (part x).block at ≡ e.block at [] []) (λ l n0. ap (λ (p : Part). p.block at) (fold-roll-Tree Part part_level l) ∙ level l n0)
  where
    level : (l : Tree-F Tree) → ((parameters : List Tree) (list : List Tree) → roll-Tree l ≡ t.Block parameters list → ⊥) → (part_level (map-Tree Tree Part part l)).block at ≡ e.block at [] []
    level (Tree-F.Block parameters list) n0 = absurd (n0 parameters list (t.rolls-Block parameters list))
    level _ n0 = refl

pub no_branch : (x : Tree) → ((at : ℕ) (condition : Tree) (list : List Tree) → x ≡ t.Branch at condition list → ⊥) → (part x).branch ≡ nils
no_branch = by_layer (λ (x : Tree). ((at : ℕ) (condition : Tree) (list : List Tree) → x ≡ t.Branch at condition list → ⊥) → (part x).branch ≡ nils) (λ l n0. ap (λ (p : Part). p.branch) (fold-roll-Tree Part part_level l) ∙ level l n0)
  where
    level : (l : Tree-F Tree) → ((at : ℕ) (condition : Tree) (list : List Tree) → roll-Tree l ≡ t.Branch at condition list → ⊥) → (part_level (map-Tree Tree Part part l)).branch ≡ nils
    level (Tree-F.Branch at condition list) n0 = absurd (n0 at condition list (t.rolls-Branch at condition list))
    level _ n0 = refl

pub no_arm : (get : Form) → (x : Tree) → ((at : ℕ) (types : List Tree) (list : List Tree) → x ≡ t.In at types list → ⊥) → (part x).arm get ≡ nils
no_arm get = by_layer (λ (x : Tree). ((at : ℕ) (types : List Tree) (list : List Tree) → x ≡ t.In at types list → ⊥) → (part x).arm get ≡ nils) (λ l n0. ap (λ (p : Part). p.arm get) (fold-roll-Tree Part part_level l) ∙ level l n0)
  where
    level : (l : Tree-F Tree) → ((at : ℕ) (types : List Tree) (list : List Tree) → roll-Tree l ≡ t.In at types list → ⊥) → (part_level (map-Tree Tree Part part l)).arm get ≡ nils
    level (Tree-F.In at types list) n0 = absurd (n0 at types list (t.rolls-In at types list))
    level _ n0 = refl

pub no_clause : (x : Tree) → ((at : ℕ) (target : Option Tree) (operation : Tree) (list : List Tree) → x ≡ t.When at target operation list → ⊥) → (part x).clause ≡ nothing
no_clause = by_layer (λ (x : Tree). ((at : ℕ) (target : Option Tree) (operation : Tree) (list : List Tree) → x ≡ t.When at target operation list → ⊥) → (part x).clause ≡ nothing) (λ l n0. ap (λ (p : Part). p.clause) (fold-roll-Tree Part part_level l) ∙ level l n0)
  where
    level : (l : Tree-F Tree) → ((at : ℕ) (target : Option Tree) (operation : Tree) (list : List Tree) → roll-Tree l ≡ t.When at target operation list → ⊥) → (part_level (map-Tree Tree Part part l)).clause ≡ nothing
    level (Tree-F.When at target operation list) n0 = absurd (n0 at target operation list (t.rolls-When at target operation list))
    level _ n0 = refl

pub no_pair : (x : Tree) → ((key : Tree) (value : Tree) → x ≡ t.Pair key value → ⊥) → (part x).pair ≡ nothing
no_pair = by_layer (λ (x : Tree). ((key : Tree) (value : Tree) → x ≡ t.Pair key value → ⊥) → (part x).pair ≡ nothing) (λ l n0. ap (λ (p : Part). p.pair) (fold-roll-Tree Part part_level l) ∙ level l n0)
  where
    level : (l : Tree-F Tree) → ((key : Tree) (value : Tree) → roll-Tree l ≡ t.Pair key value → ⊥) → (part_level (map-Tree Tree Part part l)).pair ≡ nothing
    level (Tree-F.Pair key value) n0 = absurd (n0 key value (t.rolls-Pair key value))
    level _ n0 = refl

pub no_pair_types : (at : ℕ) → (x : Tree) → ((key : Tree) (value : Tree) → x ≡ t.Pair key value → ⊥) → (part x).pair_types at ≡ e.no_unions at
no_pair_types at = by_layer (λ (x : Tree). ((key : Tree) (value : Tree) → x ≡ t.Pair key value → ⊥) → (part x).pair_types at ≡ e.no_unions at) (λ l n0. ap (λ (p : Part). p.pair_types at) (fold-roll-Tree Part part_level l) ∙ level l n0)
  where
    level : (l : Tree-F Tree) → ((key : Tree) (value : Tree) → roll-Tree l ≡ t.Pair key value → ⊥) → (part_level (map-Tree Tree Part part l)).pair_types at ≡ e.no_unions at
    level (Tree-F.Pair key value) n0 = absurd (n0 key value (t.rolls-Pair key value))
    level _ n0 = refl

pub no_accessor : (is_property : Bool) → (x : Tree) → ((at : ℕ) (word : List ℕ) (type : Option Tree) → x ≡ t.Accessor at word type → ⊥) → (part x).accessor is_property ≡ nothing
no_accessor is_property = by_layer (λ (x : Tree). ((at : ℕ) (word : List ℕ) (type : Option Tree) → x ≡ t.Accessor at word type → ⊥) → (part x).accessor is_property ≡ nothing) (λ l n0. ap (λ (p : Part). p.accessor is_property) (fold-roll-Tree Part part_level l) ∙ level l n0)
  where
    level : (l : Tree-F Tree) → ((at : ℕ) (word : List ℕ) (type : Option Tree) → roll-Tree l ≡ t.Accessor at word type → ⊥) → (part_level (map-Tree Tree Part part l)).accessor is_property ≡ nothing
    level (Tree-F.Accessor at word type) n0 = absurd (n0 at word type (t.rolls-Accessor at word type))
    level _ n0 = refl

pub no_head : (x : Tree) → ((at : ℕ) (receiver : Option Tree) (word : List ℕ) (arguments : List Tree) (blk : Option Tree) → x ≡ t.Call at receiver word arguments blk → ⊥) → ((at : ℕ) (receiver : Tree) (arguments : List Tree) (question : Bool) → x ≡ t.Index at receiver arguments question → ⊥) → ((at : ℕ) (word : List ℕ) → x ≡ t.InstanceVariable at word → ⊥) → (part x).head ≡ NoHead
no_head = by_layer (λ (x : Tree). ((at : ℕ) (receiver : Option Tree) (word : List ℕ) (arguments : List Tree) (blk : Option Tree) → x ≡ t.Call at receiver word arguments blk → ⊥) → ((at : ℕ) (receiver : Tree) (arguments : List Tree) (question : Bool) → x ≡ t.Index at receiver arguments question → ⊥) → ((at : ℕ) (word : List ℕ) → x ≡ t.InstanceVariable at word → ⊥) → (part x).head ≡ NoHead) (λ l n0 n1 n2. ap (λ (p : Part). p.head) (fold-roll-Tree Part part_level l) ∙ level l n0 n1 n2)
  where
    level : (l : Tree-F Tree) → ((at : ℕ) (receiver : Option Tree) (word : List ℕ) (arguments : List Tree) (blk : Option Tree) → roll-Tree l ≡ t.Call at receiver word arguments blk → ⊥) → ((at : ℕ) (receiver : Tree) (arguments : List Tree) (question : Bool) → roll-Tree l ≡ t.Index at receiver arguments question → ⊥) → ((at : ℕ) (word : List ℕ) → roll-Tree l ≡ t.InstanceVariable at word → ⊥) → (part_level (map-Tree Tree Part part l)).head ≡ NoHead
    level (Tree-F.Call at receiver word arguments blk) n0 n1 n2 = absurd (n0 at receiver word arguments blk (t.rolls-Call at receiver word arguments blk))
    level (Tree-F.Index at receiver arguments question) n0 n1 n2 = absurd (n1 at receiver arguments question (t.rolls-Index at receiver arguments question))
    level (Tree-F.InstanceVariable at word) n0 n1 n2 = absurd (n2 at word (t.rolls-InstanceVariable at word))
    level _ n0 n1 n2 = refl

pub no_call_case : (at : ℕ) (v : Making) (ins : List Part) → (x : Tree) → ((at : ℕ) (receiver : Option Tree) (word : List ℕ) (arguments : List Tree) (blk : Option Tree) → x ≡ t.Call at receiver word arguments blk → ⊥) → c.case_of at (part x).head v ins ≡ c.case_fresh at v ins
no_call_case at v ins = by_layer (λ (x : Tree). ((at : ℕ) (receiver : Option Tree) (word : List ℕ) (arguments : List Tree) (blk : Option Tree) → x ≡ t.Call at receiver word arguments blk → ⊥) → c.case_of at (part x).head v ins ≡ c.case_fresh at v ins) (λ l n0. ap (λ (p : Part). c.case_of at p.head v ins) (fold-roll-Tree Part part_level l) ∙ level l n0)
  where
    level : (l : Tree-F Tree) → ((at : ℕ) (receiver : Option Tree) (word : List ℕ) (arguments : List Tree) (blk : Option Tree) → roll-Tree l ≡ t.Call at receiver word arguments blk → ⊥) → c.case_of at (part_level (map-Tree Tree Part part l)).head v ins ≡ c.case_fresh at v ins
    level (Tree-F.Call at receiver word arguments blk) n0 = absurd (n0 at receiver word arguments blk (t.rolls-Call at receiver word arguments blk))
    level _ n0 = refl

pub no_call_when : (mark : ℕ) (target : Head) (list : List Part) → (x : Tree) → ((at : ℕ) (receiver : Option Tree) (word : List ℕ) (arguments : List Tree) (blk : Option Tree) → x ≡ t.Call at receiver word arguments blk → ⊥) → c.when mark target (part x).head list ≡ nothing
no_call_when mark target list = by_layer (λ (x : Tree). ((at : ℕ) (receiver : Option Tree) (word : List ℕ) (arguments : List Tree) (blk : Option Tree) → x ≡ t.Call at receiver word arguments blk → ⊥) → c.when mark target (part x).head list ≡ nothing) (λ l n0. ap (λ (p : Part). c.when mark target p.head list) (fold-roll-Tree Part part_level l) ∙ level l n0)
  where
    level : (l : Tree-F Tree) → ((at : ℕ) (receiver : Option Tree) (word : List ℕ) (arguments : List Tree) (blk : Option Tree) → roll-Tree l ≡ t.Call at receiver word arguments blk → ⊥) → c.when mark target (part_level (map-Tree Tree Part part l)).head list ≡ nothing
    level (Tree-F.Call at receiver word arguments blk) n0 = absurd (n0 at receiver word arguments blk (t.rolls-Call at receiver word arguments blk))
    level _ n0 = refl

pub no_call_receive : (form : Form) (mark : ℕ) (at : ℕ) (channel : Making) (list : List Part) → (x : Tree) → ((at : ℕ) (receiver : Option Tree) (word : List ℕ) (arguments : List Tree) (blk : Option Tree) → x ≡ t.Call at receiver word arguments blk → ⊥) → c.receive form mark at (part x).head channel list ≡ c.receive_alone form mark at channel list
no_call_receive form mark at channel list = by_layer (λ (x : Tree). ((at : ℕ) (receiver : Option Tree) (word : List ℕ) (arguments : List Tree) (blk : Option Tree) → x ≡ t.Call at receiver word arguments blk → ⊥) → c.receive form mark at (part x).head channel list ≡ c.receive_alone form mark at channel list) (λ l n0. ap (λ (p : Part). c.receive form mark at p.head channel list) (fold-roll-Tree Part part_level l) ∙ level l n0)
  where
    level : (l : Tree-F Tree) → ((at : ℕ) (receiver : Option Tree) (word : List ℕ) (arguments : List Tree) (blk : Option Tree) → roll-Tree l ≡ t.Call at receiver word arguments blk → ⊥) → c.receive form mark at (part_level (map-Tree Tree Part part l)).head channel list ≡ c.receive_alone form mark at channel list
    level (Tree-F.Call at receiver word arguments blk) n0 = absurd (n0 at receiver word arguments blk (t.rolls-Call at receiver word arguments blk))
    level _ n0 = refl

pub no_list_members : (x : Tree) → ((list : List Tree) → x ≡ t.Statements list → ⊥) → (part x).list_members ≡ nothing
no_list_members = by_layer (λ (x : Tree). ((list : List Tree) → x ≡ t.Statements list → ⊥) → (part x).list_members ≡ nothing) (λ l n0. ap (λ (p : Part). p.list_members) (fold-roll-Tree Part part_level l) ∙ level l n0)
  where
    level : (l : Tree-F Tree) → ((list : List Tree) → roll-Tree l ≡ t.Statements list → ⊥) → (part_level (map-Tree Tree Part part l)).list_members ≡ nothing
    level (Tree-F.Statements list) n0 = absurd (n0 list (t.rolls-Statements list))
    level _ n0 = refl

pub no_list_statements : (x : Tree) → ((list : List Tree) → x ≡ t.Statements list → ⊥) → (part x).list_statements ≡ []
no_list_statements = by_layer (λ (x : Tree). ((list : List Tree) → x ≡ t.Statements list → ⊥) → (part x).list_statements ≡ []) (λ l n0. ap (λ (p : Part). p.list_statements) (fold-roll-Tree Part part_level l) ∙ level l n0)
  where
    level : (l : Tree-F Tree) → ((list : List Tree) → roll-Tree l ≡ t.Statements list → ⊥) → (part_level (map-Tree Tree Part part l)).list_statements ≡ []
    level (Tree-F.Statements list) n0 = absurd (n0 list (t.rolls-Statements list))
    level _ n0 = refl

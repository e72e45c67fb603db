-- What the table makes of conditions, assignments and declarations is well formed.
use Rattle.std.specs.Prelude.{slice_get, codes}
use Rattle.std.proofs.Common.{◌≡◌, ℕ, suc, ◌+◌, ◌≤◌, inl, inr, Bool, true, false, List, [], ◌∷◌, ◌++◌, length, map, Option, Some, None, refl, sym, ap, arith, length-append}
use Rattle.cr_base.specs.declared.ids.NameId.{NameId}
use Rattle.cr_grammar.specs.declared.operator.Assignment.{Assignment}
use Rattle.cr_grammar.specs.declared.operator.Assignment.TheVariants as o
use Rattle.cr_core.specs.declared.form.Form.{Form}
use Rattle.cr_core.specs.declared.form.Form.TheVariants as f
use Rattle.cr_core.specs.declared.form.Local.{Local}
use Rattle.cr_core.specs.declared.form.ScopeId.{ScopeId}
use Rattle.cr_core.specs.Arena.{opening}
use Rattle.cr_core.specs.Shape as sh
use Rattle.cr_core.specs.Shape.{Role, role, Portion, portions, Fits, where_told}
use Rattle.cr_making.specs.declared.naming.Opened.{Opened}
use Rattle.cr_making.specs.declared.words.Operation.{Operation}
use Rattle.cr_making.specs.declared.words.Operation.TheVariants.{Send, Receive, ReceiveOrNil, NoOperation}
use Rattle.cr_making.specs.Words.{operation_of, assigned_operator, setter, variable}
use Rattle.cr_making.specs.Naming.{State, named, declared, target, found, fresh, later_local, with_parameters}
use Rattle.cr_making.specs.Making.{Making, nothing, ◌▸◌, wrapped, leaf, using, apart, all}
use Rattle.cr_making.specs.Part.{Part, Head, NoHead, Called, Element, Variable, each, is_there, line, statements_of, statements, members_of, union, held_union}
use Rattle.cr_making.specs.Terms as t
use Rattle.cr_making.specs.Control as c
use Rattle.cr_making.specs.Assigning as a
use Rattle.cr_making.specs.Declaring as d
use Rattle.cr_lowering.proofs.Grows.{frame, frames, KnowsForm}
use Rattle.cr_lowering.proofs.Fresh.{NoParameter}
use Rattle.cr_lowering.proofs.Told.{scope_in, ToldIn, told_right}
use Rattle.cr_lowering.proofs.Good.{Good, Keeps, Always, always_keeps, good_where, good_join, good_flipped, good_wrapped, good_leaf, knows_name, knows_names, good_using, good_naming, HasName, Sees, MaySee, HasRun, SeesRun, keeps_both, keeps_local, keeps_maybe, keeps_run, declared_does, naming_does, fresh_does, found_does, target_does, with_parameters_does, first_seen, run_seen, Goods, good_many, good_none, good_all, good_one_many, AheadGood, Term, good_if, good_seq, good_nest_if, good_nest_seq, good_nil, good_sequence}
use Rattle.cr_lowering.proofs.Inside.{GoodParameters, body_does, plain_does, good_def}
use Rattle.cr_lowering.proofs.Goods.{GoodHead, Two, Members, GoodPart, AllGood, OneGood, ListGood, node_good, leaf_good, local_good, set_good, with_name_good, weaker, sent_alone, sent_two, sent_many, statements_good, statements_all, union_good, union_held, NameKept, name_kept, locals_good, atoms_good, parameters_all}

-- ---- conditions and loops

otherwise_good : (at : ℕ) (last : Option (List Part)) → ListGood last → Good Always Term (c.otherwise at last)
otherwise_good at None h = good_nil Always at
otherwise_good at (Some ps) h = statements_good at ps h

branches_ahead : (ps : List Part) → AllGood ps → AheadGood Always Two (map (λ (p : Part). p.branch) ps)
branches_ahead [] h = tt
branches_ahead (p ∷ ps) h = (h.0.branch, branches_ahead ps h.1)

branches_good : (at : ℕ) (others : List Part) (last : Option (List Part)) → AllGood others → ListGood last → Good Always Term (c.branches at others last)
unfolding c.branches
branches_good at others last h g = good_nest_if Always (map (λ (p : Part). p.branch) others) (c.otherwise at last) always_keeps (branches_ahead others h) (otherwise_good at last g)

sides_good : (unless : Bool) (m k : Making) → Good Always Term m → Good Always Term k → Good Always Two (c.sides unless m k)
sides_good true m k x y = good_flipped Always Term Term m k always_keeps x y
sides_good false m k x y = good_join Always Term Term m k always_keeps x y

pub conditional_good : (at : ℕ) (unless : Bool) (condition : Part) (body others : List Part) (last : Option (List Part)) → GoodPart condition → AllGood body → AllGood others → ListGood last → Good Always Term (c.conditional at unless condition body others last)
unfolding c.conditional
conditional_good at unless condition body others last x h g y =
    good_if Always at (condition.own ▸ c.sides unless (statements at body) (c.branches at others last))
    (good_join Always Term Two condition.own (c.sides unless (statements at body) (c.branches at others last)) always_keeps x.own
    (sides_good unless (statements at body) (c.branches at others last) (statements_good at body h) (branches_good at others last g y)))

pub nils_good : (W : State → Type 0) → Keeps W → Good W Two c.two_nils
nils_good W keeps = good_join W Term Term (leaf f.Nil 0) (leaf f.Nil 0) keeps (good_nil W 0) (good_nil W 0)

pub branch_good : (at : ℕ) (condition : Part) (body : List Part) → GoodPart condition → AllGood body → Good Always Two (c.branch at condition body)
unfolding c.branch
branch_good at condition body x h = good_join Always Term Term condition.own (statements at body) always_keeps x.own (statements_good at body h)

test_good : (at : ℕ) (until : Bool) (m : Making) → Good Always Term m → Good Always Term (c.test at until m)
test_good at true m x = node_good Always f.Not at m refl refl refl refl tt (refl, tt) x
test_good at false m x = x

pub loop_good : (at : ℕ) (until : Bool) (condition : Part) (body : List Part) → GoodPart condition → AllGood body → Good Always Term (c.loop at until condition body)
unfolding c.loop
loop_good at until condition body x h =
    let again = leaf f.Again at in
    let turn = wrapped f.Seq at (statements at body ▸ again) in
    let inside = c.test at until condition.own ▸ turn ▸ leaf f.Nil at in
    node_good Always f.While at (wrapped f.If at inside) refl refl refl refl tt (refl, tt)
    (good_if Always at inside
    (good_join Always Term Two (c.test at until condition.own) (turn ▸ leaf f.Nil at) always_keeps (test_good at until condition.own x.own)
    (good_join Always Term Term turn (leaf f.Nil at) always_keeps
    (good_seq Always at (statements at body) again always_keeps (statements_good at body h) (leaf_good Always f.Again at refl refl refl refl tt refl))
    (good_nil Always at))))

own_or_nil_good : (at : ℕ) (value : Option Part) → OneGood value → Good Always Term (c.own_or_nil at value)
own_or_nil_good at None h = good_nil Always at
own_or_nil_good at (Some p) h = h.own

pub return_good : (at : ℕ) (value : Option Part) → OneGood value → Good Always Term (c.jump f.Return at value)
unfolding c.jump
return_good at value h = node_good Always f.Return at (c.own_or_nil at value) refl refl refl refl tt (refl, tt) (own_or_nil_good at value h)

pub next_good : (at : ℕ) (value : Option Part) → OneGood value → Good Always Term (c.jump f.Next at value)
unfolding c.jump
next_good at value h = node_good Always f.Next at (c.own_or_nil at value) refl refl refl refl tt (refl, tt) (own_or_nil_good at value h)

-- ---- `case`

pub arm_good : (at : ℕ) (types body : List Part) (l : Local) → AllGood types → AllGood body → Good (Sees l) Two (c.arm at types body (f.Local l))
unfolding c.arm
arm_good at types body l h g =
    let test = wrapped f.IsA at (leaf (f.Local l) at ▸ each (λ (p : Part). p.atoms) types) in
    good_join (Sees l) Term Term test (statements at body) (keeps_local l)
    (node_good (Sees l) f.IsA at (leaf (f.Local l) at ▸ each (λ (p : Part). p.atoms) types) refl refl refl refl tt (refl, (refl, tt))
    (good_join (Sees l) Term (sh.many sh.Atom ∷ []) (leaf (f.Local l) at) (each (λ (p : Part). p.atoms) types) (keeps_local l)
    (local_good (Sees l) l at (λ s w. w)) (good_where (Sees l) (sh.many sh.Atom ∷ []) (each (λ (p : Part). p.atoms) types) (atoms_good types h))))
    (good_where (Sees l) Term (statements at body) (statements_good at body g))

arms_ahead : (W : State → Type 0) (l : Local) (ps : List Part) → ((s : State) → W s → Sees l s) → AllGood ps → AheadGood W Two (map (λ (p : Part). p.arm (f.Local l)) ps)
arms_ahead W l [] sees h = tt
arms_ahead W l (p ∷ ps) sees h = (weaker (Sees l) W Two (p.arm (f.Local l)).made sees (h.0.arm l), arms_ahead W l ps sees h.1)

arms_good : (W : State → Type 0) (at : ℕ) (ps : List Part) (l : Local) → Keeps W → ((s : State) → W s → Sees l s) → AllGood ps → Good W Term (c.arms at ps (f.Local l))
unfolding c.arms
arms_good W at ps l keeps sees h =
    good_nest_if W (map (λ (p : Part). p.arm (f.Local l)) ps) (c.no_arm at (f.Local l)) keeps (arms_ahead W l ps sees h)
    (sent_alone W at (codes "in") (leaf (f.Local l) at) keeps (local_good W l at sees))

-- a fresh local is known where it is made
abbrev pub RunKept : ℕ → Local → State → Type 0
RunKept n l s = Always s × HasRun n l s

pub run_kept : (n : ℕ) (l : Local) → Keeps (RunKept n l)
run_kept n l = keeps_both Always (HasRun n l) always_keeps (keeps_run n l)

run_sees : (n : ℕ) (l : Local) (s : State) → RunKept n l s → Sees l s
run_sees n l s w = first_seen n l s w.1

case_fresh_good : (at : ℕ) (value : Making) (ps : List Part) → Good Always Term value → AllGood ps → Good Always Term (c.case_fresh at value ps)
unfolding c.case_fresh
case_fresh_good at value ps x h =
    good_using Always (HasRun 0) Term (declared None) (λ (l : Local). wrapped f.Seq at (wrapped (f.Set l) at value ▸ c.arms at ps (f.Local l))) always_keeps (λ s i w. declared_does s i)
    (λ l. good_seq (RunKept 0 l) at (wrapped (f.Set l) at value) (c.arms at ps (f.Local l)) (run_kept 0 l)
    (set_good (RunKept 0 l) l at value (run_sees 0 l) (good_where (RunKept 0 l) Term value x))
    (arms_good (RunKept 0 l) at ps l (run_kept 0 l) (run_sees 0 l) h))

case_by_good : (at : ℕ) (id : NameId) (value : Making) (ps : List Part) (l : Option Local) → Good Always Term value → AllGood ps → Good (λ (s : State). NameKept id s × MaySee l s) Term (c.case_by at value ps l)
case_by_good at id value ps (Some l) x h =
    arms_good (λ (s : State). NameKept id s × MaySee (Some l) s) at ps l (keeps_both (NameKept id) (MaySee (Some l)) (name_kept id) (keeps_maybe (Some l))) (λ s w. w.1) h
case_by_good at id value ps None x h = good_where (λ (s : State). NameKept id s × MaySee None s) Term (c.case_fresh at value ps) (case_fresh_good at value ps x h)

case_name_good : (at : ℕ) (name : List ℕ) (value : Making) (ps : List Part) → Good Always Term value → AllGood ps → Good Always Term (c.case_name at name value ps)
unfolding c.case_name
case_name_good at name value ps x h =
    with_name_good Always Term name (λ (id : NameId). using (found id) (λ (l : Option Local). c.case_by at value ps l)) always_keeps
    (λ id. good_using (NameKept id) MaySee Term (found id) (λ (l : Option Local). c.case_by at value ps l) (name_kept id) (λ s i w. found_does id s i) (λ l. case_by_good at id value ps l x h))

pub case_good : (at : ℕ) (head : Head) (value : Making) (ps : List Part) → Good Always Term value → AllGood ps → Good Always Term (c.case_of at head value ps)
case_good at NoHead value ps x h = case_fresh_good at value ps x h
case_good at (Element place r is question) value ps x h = case_fresh_good at value ps x h
case_good at (Variable name) value ps x h = case_fresh_good at value ps x h
case_good at (Called place (Some r) name arguments bare) value ps x h = case_fresh_good at value ps x h
case_good at (Called place None name arguments true) value ps x h = case_name_good at name value ps x h
case_good at (Called place None name arguments false) value ps x h = case_fresh_good at value ps x h

-- ---- `select`

clauses_all : (ps : List Part) → AllGood ps → Goods Always (sh.many sh.Clause ∷ []) (map (λ (p : Part). p.clause) ps)
clauses_all [] h = tt
clauses_all (p ∷ ps) h = (h.0.clause, clauses_all ps h.1)

clauses_good : (ps : List Part) → AllGood ps → Good Always (sh.many sh.Clause ∷ []) (each (λ (p : Part). p.clause) ps)
clauses_good ps h = good_all Always sh.Clause (map (λ (p : Part). p.clause) ps) always_keeps (clauses_all ps h)

select_alone_good : (at : ℕ) (ps : List Part) → AllGood ps → Good Always Term (c.select_alone at ps)
unfolding c.select_alone
select_alone_good at ps h = node_good Always (f.Select false) at (each (λ (p : Part). p.clause) ps) refl refl refl refl tt (refl, tt) (clauses_good ps h)

select_or_good : (at : ℕ) (ps last : List Part) → AllGood ps → AllGood last → Good Always Term (c.select_or at ps last)
unfolding c.select_or
select_or_good at ps last h g =
    node_good Always (f.Select true) at (each (λ (p : Part). p.clause) ps ▸ statements at last) refl refl refl refl tt (refl, (refl, tt))
    (good_join Always (sh.many sh.Clause ∷ []) Term (each (λ (p : Part). p.clause) ps) (statements at last) always_keeps (clauses_good ps h) (statements_good at last g))

pub select_good : (at : ℕ) (ps : List Part) (last : Option (List Part)) → AllGood ps → ListGood last → Good Always Term (c.select at ps last)
select_good at ps None h g = select_alone_good at ps h
select_good at ps (Some last) h g = select_or_good at ps last h g

abbrev pub Clauses : List Portion
Clauses = sh.many sh.Clause ∷ []

receive_alone_good : (form : Form) (mark at : ℕ) (channel : Making) (body : List Part) → ((W : State → Type 0) (m : Making) → Good W Two m → Good W (sh.one sh.Clause ∷ []) (wrapped form at m)) → Good Always Term channel → AllGood body → Good Always Clauses (c.receive_alone form mark at channel body)
unfolding c.receive_alone
receive_alone_good form mark at channel body wrap x h =
    good_one_many Always sh.Clause (wrapped form at (channel ▸ statements mark body)) (wrap Always (channel ▸ statements mark body) (good_join Always Term Term channel (statements mark body) always_keeps x (statements_good mark body h)))

abbrev pub NameSeen : NameId → Local → State → Type 0
NameSeen id l s = NameKept id s × Sees l s

pub name_seen : (id : NameId) (l : Local) → Keeps (NameSeen id l)
name_seen id l = keeps_both (NameKept id) (Sees l) (name_kept id) (keeps_local l)

received_told : (form : Form) (mark at place : ℕ) (l : Local) (channel : Making) (body : List Part) (s : State) → ToldIn s.inner.number l.scope l.slot (wrapped form at (channel ▸ wrapped f.Seq mark (wrapped (f.Set l) place (leaf f.Received at) ▸ statements mark body)) s).value
unfolding wrapped ◌▸◌
received_told form mark at place l channel body s =
    let after = (wrapped f.Seq mark (wrapped (f.Set l) place (leaf f.Received at) ▸ statements mark body) (channel s).after).value in
    inr (inl (told_right (scope_in (opening form) s.inner.number) l.scope l.slot (channel s).value after (inr (inl (inl (refl, refl))))))

receive_name_good : (form : Form) (mark at place : ℕ) (name : List ℕ) (channel : Making) (body : List Part) → ((W : State → Type 0) (m : Making) → Good W Two m → Good W (sh.one sh.Clause ∷ []) (wrapped form at m)) → Good Always Term channel → AllGood body → Good Always Clauses (c.receive_name form mark at place name channel body)
unfolding c.receive_name
receive_name_good form mark at place name channel body wrap x h =
    let set = λ (l : Local). wrapped (f.Set l) place (leaf f.Received at) in
    let made = λ (l : Local). wrapped form at (channel ▸ wrapped f.Seq mark (set l ▸ statements mark body)) in
    good_one_many Always sh.Clause (using (named name) (λ (id : NameId). using (target id) made))
    (with_name_good Always (sh.one sh.Clause ∷ []) name (λ (id : NameId). using (target id) made) always_keeps
    (λ id. good_naming (NameKept id) Sees (sh.one sh.Clause ∷ []) (target id) made (name_kept id) (λ s i w. target_does id s w.1 i)
    (λ l. wrap (NameSeen id l) (channel ▸ wrapped f.Seq mark (set l ▸ statements mark body))
    (good_join (NameSeen id l) Term Term channel (wrapped f.Seq mark (set l ▸ statements mark body)) (name_seen id l) (good_where (NameSeen id l) Term channel x)
    (good_seq (NameSeen id l) mark (set l) (statements mark body) (name_seen id l)
    (set_good (NameSeen id l) l place (leaf f.Received at) (λ s w. w.1) (leaf_good (NameSeen id l) f.Received at refl refl refl refl tt refl))
    (good_where (NameSeen id l) Term (statements mark body) (statements_good mark body h)))))
    (λ l s w. received_told form mark at place l channel body s)))

receive_good : (form : Form) (mark at : ℕ) (head : Head) (channel : Making) (body : List Part) → ((W : State → Type 0) (m : Making) → Good W Two m → Good W (sh.one sh.Clause ∷ []) (wrapped form at m)) → Good Always Term channel → AllGood body → Good Always Clauses (c.receive form mark at head channel body)
receive_good form mark at NoHead channel body wrap x h = receive_alone_good form mark at channel body wrap x h
receive_good form mark at (Element place r is question) channel body wrap x h = receive_alone_good form mark at channel body wrap x h
receive_good form mark at (Variable name) channel body wrap x h = receive_alone_good form mark at channel body wrap x h
receive_good form mark at (Called place (Some r) name arguments bare) channel body wrap x h = receive_alone_good form mark at channel body wrap x h
receive_good form mark at (Called place None name arguments true) channel body wrap x h = receive_name_good form mark at place name channel body wrap x h
receive_good form mark at (Called place None name arguments false) channel body wrap x h = receive_alone_good form mark at channel body wrap x h

send_value_good : (mark at : ℕ) (channel value : Making) (body : List Part) → Good Always Term channel → Good Always Term value → AllGood body → Good Always Clauses (c.send_value mark at channel value body)
unfolding c.send_value
send_value_good mark at channel value body x y h =
    good_one_many Always sh.Clause (wrapped f.Send at (channel ▸ value ▸ statements mark body))
    (node_good Always f.Send at (channel ▸ value ▸ statements mark body) refl refl refl refl tt (refl, (refl, (refl, tt)))
    (good_join Always Term Two channel (value ▸ statements mark body) always_keeps x (good_join Always Term Term value (statements mark body) always_keeps y (statements_good mark body h))))

send_good : (mark at : ℕ) (channel : Making) (ms : List Making) (body : List Part) → Good Always Term channel → Goods Always Term ms → AllGood body → Good Always Clauses (c.send mark at channel ms body)
send_good mark at channel [] body x g h = good_none Always sh.Clause
send_good mark at channel (m ∷ []) body x g h = send_value_good mark at channel m body x g.0 h
send_good mark at channel (m ∷ n ∷ ms) body x g h = good_none Always sh.Clause

operate_good : (op : Operation) (mark at : ℕ) (head : Head) (channel : Making) (ms : List Making) (body : List Part) → Good Always Term channel → Goods Always Term ms → AllGood body → Good Always Clauses (c.operate op mark at head channel ms body)
operate_good Send mark at head channel ms body x g h = send_good mark at channel ms body x g h
operate_good Receive mark at head channel ms body x g h = receive_good f.Receive mark at head channel body (λ W m y. node_good W f.Receive at m refl refl refl refl tt (refl, (refl, tt)) y) x h
operate_good ReceiveOrNil mark at head channel ms body x g h = receive_good f.ReceiveOrNil mark at head channel body (λ W m y. node_good W f.ReceiveOrNil at m refl refl refl refl tt (refl, (refl, tt)) y) x h
operate_good NoOperation mark at head channel ms body x g h = good_none Always sh.Clause

pub when_good : (mark : ℕ) (to head : Head) (body : List Part) → GoodHead head → AllGood body → Good Always Clauses (c.when mark to head body)
when_good mark to NoHead body x h = good_none Always sh.Clause
when_good mark to (Element place r is question) body x h = good_none Always sh.Clause
when_good mark to (Variable name) body x h = good_none Always sh.Clause
when_good mark to (Called at None name arguments bare) body x h = good_none Always sh.Clause
when_good mark to (Called at (Some r) name arguments bare) body x h = operate_good (operation_of name) mark at to r arguments body x.0 x.1 h

-- ---- assignments

-- forms that read and set one thing
record Reaches (W : State → Type 0) (get set : Form) : Type 0 where
  pub reads : (at : ℕ) → Good W Term (leaf get at)
  pub sets : (at : ℕ) (m : Making) → Good W Term m → Good W Term (wrapped set at m)

compound_good : (W : State → Type 0) (op : Assignment) (mark : ℕ) (get set : Form) (v : Making) → Keeps W → Reaches W get set → Good W Term v → Good W Term (a.compound op mark get set v)
unfolding a.compound
compound_good W op mark get set v keeps r x =
    r.sets mark (t.sent mark (assigned_operator op) (leaf get mark ▸ v)) (sent_two W mark (assigned_operator op) (leaf get mark) v keeps (r.reads mark) x)

put_good : (W : State → Type 0) (get set : Form) (at : ℕ) (v : Making) → Reaches W get set → Good W Term v → Good W Term (a.put set at v)
unfolding a.put
put_good W get set at v r x = r.sets at v x

put_or_good : (W : State → Type 0) (mark : ℕ) (get set : Form) (v : Making) → Keeps W → Reaches W get set → Good W Term v → Good W Term (a.put_or mark get set v)
unfolding a.put_or
put_or_good W mark get set v keeps r x =
    node_good W f.Or mark (leaf get mark ▸ a.put set mark v) refl refl refl refl tt (refl, (refl, tt)) (good_join W Term Term (leaf get mark) (a.put set mark v) keeps (r.reads mark) (put_good W get set mark v r x))

assigned_good : (W : State → Type 0) (at : ℕ) (op : Assignment) (mark : ℕ) (get set : Form) (v : Making) → Keeps W → Reaches W get set → Good W Term v → Good W Term (a.assigned at op mark get set v)
assigned_good W at o.Plain mark get set v keeps r x = put_good W get set at v r x
assigned_good W at o.Or mark get set v keeps r x = put_or_good W mark get set v keeps r x
assigned_good W at o.Plus mark get set v keeps r x = compound_good W o.Plus mark get set v keeps r x
assigned_good W at o.Minus mark get set v keeps r x = compound_good W o.Minus mark get set v keeps r x
assigned_good W at o.Star mark get set v keeps r x = compound_good W o.Star mark get set v keeps r x
assigned_good W at o.SlashSlash mark get set v keeps r x = compound_good W o.SlashSlash mark get set v keeps r x
assigned_good W at o.Percent mark get set v keeps r x = compound_good W o.Percent mark get set v keeps r x

local_reaches : (W : State → Type 0) (l : Local) → ((s : State) → W s → Sees l s) → Reaches W (f.Local l) (f.Set l)
local_reaches W l sees = record { reads = λ at. local_good W l at sees; sets = λ at m x. set_good W l at m sees x }

field_reaches : (id : NameId) → Reaches (NameKept id) (f.Field id) (f.SetField id)
field_reaches id = record {
  reads = λ at. good_leaf (NameKept id) (f.Field id) at (λ s w. knows_name (f.Field id) id s w.1 refl refl refl refl) tt refl;
  sets = λ at m x. good_wrapped (NameKept id) (f.SetField id) at m (λ s w. knows_name (f.SetField id) id s w.1 refl refl refl refl) tt (refl, tt) x;
}

compound_told : (op : Assignment) (mark : ℕ) (l : Local) (v : Making) (s : State) → ToldIn s.inner.number l.scope l.slot (a.compound op mark (f.Local l) (f.Set l) v s).value
unfolding a.compound wrapped
compound_told op mark l v s = inl (refl, refl)

put_told : (at : ℕ) (l : Local) (v : Making) (s : State) → ToldIn s.inner.number l.scope l.slot (a.put (f.Set l) at v s).value
unfolding a.put wrapped
put_told at l v s = inl (refl, refl)

put_or_told : (mark : ℕ) (l : Local) (v : Making) (s : State) → ToldIn s.inner.number l.scope l.slot (a.put_or mark (f.Local l) (f.Set l) v s).value
unfolding a.put_or a.put wrapped ◌▸◌
put_or_told mark l v s = inr (inl (inr (inr (inl (refl, refl)))))

assigned_told : (at : ℕ) (op : Assignment) (mark : ℕ) (l : Local) (v : Making) (s : State) → ToldIn s.inner.number l.scope l.slot (a.assigned at op mark (f.Local l) (f.Set l) v s).value
assigned_told at o.Plain mark l v s = put_told at l v s
assigned_told at o.Or mark l v s = put_or_told mark l v s
assigned_told at o.Plus mark l v s = compound_told o.Plus mark l v s
assigned_told at o.Minus mark l v s = compound_told o.Minus mark l v s
assigned_told at o.Star mark l v s = compound_told o.Star mark l v s
assigned_told at o.SlashSlash mark l v s = compound_told o.SlashSlash mark l v s
assigned_told at o.Percent mark l v s = compound_told o.Percent mark l v s

assign_name_good : (at : ℕ) (name : List ℕ) (op : Assignment) (mark : ℕ) (v : Making) → Good Always Term v → Good Always Term (a.assign_name at name op mark v)
unfolding a.assign_name
assign_name_good at name op mark v x =
    let made = λ (l : Local). a.assigned at op mark (f.Local l) (f.Set l) v in
    with_name_good Always Term name (λ (id : NameId). using (target id) made) always_keeps
    (λ id. good_naming (NameKept id) Sees Term (target id) made (name_kept id) (λ s i w. target_does id s w.1 i)
    (λ l. assigned_good (NameSeen id l) at op mark (f.Local l) (f.Set l) v (name_seen id l) (local_reaches (NameSeen id l) l (λ s w. w.1)) (good_where (NameSeen id l) Term v x))
    (λ l s w. assigned_told at op mark l v s))

assign_variable_good : (at : ℕ) (name : List ℕ) (op : Assignment) (mark : ℕ) (v : Making) → Good Always Term v → Good Always Term (a.assign_variable at name op mark v)
unfolding a.assign_variable
assign_variable_good at name op mark v x =
    with_name_good Always Term (variable name) (λ (id : NameId). a.assigned at op mark (f.Field id) (f.SetField id) v) always_keeps
    (λ id. assigned_good (NameKept id) at op mark (f.Field id) (f.SetField id) v (name_kept id) (field_reaches id) (good_where (NameKept id) Term v x))

set_attribute_good : (at : ℕ) (r : Making) (name : List ℕ) (v : Making) → Good Always Term r → Good Always Term v → Good Always Term (a.set_attribute at r name v)
unfolding a.set_attribute
set_attribute_good at r name v x y = sent_two Always at (setter name) r v always_keeps x y

change_attribute_good : (r : Making) (name : List ℕ) (op : Assignment) (mark : ℕ) (v : Making) → Good Always Term r → Good Always Term v → Good Always Term (a.change_attribute r name op mark v)
unfolding a.change_attribute
change_attribute_good r name op mark v x y =
    let read = λ (l : Local). leaf (f.Local l) mark in
    let value = λ (l : Local). t.sent mark (assigned_operator op) (t.sent mark name (read l) ▸ v) in
    let put = λ (l : Local). t.sent mark (setter name) (read l ▸ value l) in
    good_using Always (HasRun 0) Term (declared None) (λ (l : Local). wrapped f.Seq mark (wrapped (f.Set l) mark r ▸ put l)) always_keeps (λ s i w. declared_does s i)
    (λ l. let W = RunKept 0 l in
    let keeps = run_kept 0 l in
    let reads = local_good W l mark (run_sees 0 l) in
    good_seq W mark (wrapped (f.Set l) mark r) (put l) keeps
    (set_good W l mark r (run_sees 0 l) (good_where W Term r x))
    (sent_two W mark (setter name) (read l) (value l) keeps reads
    (sent_two W mark (assigned_operator op) (t.sent mark name (read l)) v keeps (sent_alone W mark name (read l) keeps reads) (good_where W Term v y))))

attribute_good : (at : ℕ) (r : Making) (name : List ℕ) (op : Assignment) (mark : ℕ) (v : Making) → Good Always Term r → Good Always Term v → Good Always Term (a.assign_attribute at r name op mark v)
attribute_good at r name o.Plain mark v x y = set_attribute_good at r name v x y
attribute_good at r name o.Or mark v x y = change_attribute_good r name o.Or mark v x y
attribute_good at r name o.Plus mark v x y = change_attribute_good r name o.Plus mark v x y
attribute_good at r name o.Minus mark v x y = change_attribute_good r name o.Minus mark v x y
attribute_good at r name o.Star mark v x y = change_attribute_good r name o.Star mark v x y
attribute_good at r name o.SlashSlash mark v x y = change_attribute_good r name o.SlashSlash mark v x y
attribute_good at r name o.Percent mark v x y = change_attribute_good r name o.Percent mark v x y

many_goods : (W : State → Type 0) (ms : List Making) → Goods Always Term ms → Goods W (sh.many sh.Term ∷ []) ms
many_goods W [] h = tt
many_goods W (m ∷ ms) h = (good_where W (sh.many sh.Term ∷ []) m (good_one_many Always sh.Term m h.0), many_goods W ms h.1)

set_element_good : (at : ℕ) (r : Making) (is : List Making) (v : Making) → Good Always Term r → Goods Always Term is → Good Always Term v → Good Always Term (a.set_element at r is v)
unfolding a.set_element
set_element_good at r is v x h y =
    sent_many Always at (codes "[]=") r (all is ▸ v) always_keeps x
    (good_many Always sh.Term (all is) v always_keeps (good_all Always sh.Term is always_keeps (many_goods Always is h)) (good_one_many Always sh.Term v y))

kept_ahead : (N : ℕ) (mark : ℕ) (l : Local) (n : ℕ) (is : List Making) → n + length is ≤ suc N → Goods Always Term is → AheadGood (RunKept N l) Term (a.kept_indexes mark l n is)
kept_ahead N mark l n [] le h = tt
kept_ahead N mark l n (i ∷ is) le h = (
  set_good (RunKept N l) (later_local l n) mark i (λ s w. run_seen N n l s (omega (arith, le)) w.1) (good_where (RunKept N l) Term i h.0),
  kept_ahead N mark l (suc n) is (omega (arith, le)) h.1,
)

behind_seen : (N : ℕ) (l : Local) (s : State) → HasRun N l s → SeesRun (later_local l 1) N s
behind_seen N l s w j lt = record { seen = frame s.inner; stands = ap (slice_get (frames s)) w.0; number = sym w.1; slot = omega (arith, w.2, lt) }

put_element_good : (op : Assignment) (mark : ℕ) (l : Local) (N : ℕ) (v : Making) → Good Always Term v → Good (RunKept N l) Term (a.put_element op mark l N v)
unfolding a.put_element
put_element_good op mark l N v y =
    let W = RunKept N l in
    let keeps = run_kept N l in
    let read = leaf (f.Local l) mark in
    let reads : Good W Term read = local_good W l mark (run_sees N l) in
    let run = t.locals mark (later_local l 1) N in
    let runs : Good W (sh.many sh.Term ∷ []) run = locals_good W mark (later_local l 1) N keeps (λ s w. behind_seen N l s w.1) in
    let value = t.sent mark (assigned_operator op) (t.sent mark (codes "[]") (read ▸ run) ▸ v) in
    let values : Good W Term value = sent_two W mark (assigned_operator op) (t.sent mark (codes "[]") (read ▸ run)) v keeps (sent_many W mark (codes "[]") read run keeps reads runs) (good_where W Term v y) in
    sent_many W mark (codes "[]=") read (run ▸ value) keeps reads (good_many W sh.Term run value keeps runs (good_one_many W sh.Term value values))

change_element_good : (r : Making) (is : List Making) (op : Assignment) (mark : ℕ) (v : Making) → Good Always Term r → Goods Always Term is → Good Always Term v → Good Always Term (a.change_element r is op mark v)
unfolding a.change_element a.keep_and_put
change_element_good r is op mark v x h y =
    let N = length is in
    good_using Always (HasRun N) Term (fresh N) (λ (l : Local). wrapped f.Seq mark (wrapped (f.Set l) mark r ▸ a.keep_and_put is op mark l v)) always_keeps (λ s i w. fresh_does N s i)
    (λ l. good_seq (RunKept N l) mark (wrapped (f.Set l) mark r) (a.keep_and_put is op mark l v) (run_kept N l)
    (set_good (RunKept N l) l mark r (run_sees N l) (good_where (RunKept N l) Term r x))
    (good_nest_seq (RunKept N l) (a.kept_indexes mark l 1 is) (a.put_element op mark l N v) (run_kept N l) (kept_ahead N mark l 1 is (omega arith) h) (put_element_good op mark l N v y)))

element_good : (at : ℕ) (r : Making) (is : List Making) (op : Assignment) (mark : ℕ) (v : Making) → Good Always Term r → Goods Always Term is → Good Always Term v → Good Always Term (a.assign_element at r is op mark v)
element_good at r is o.Plain mark v x h y = set_element_good at r is v x h y
element_good at r is o.Or mark v x h y = change_element_good r is o.Or mark v x h y
element_good at r is o.Plus mark v x h y = change_element_good r is o.Plus mark v x h y
element_good at r is o.Minus mark v x h y = change_element_good r is o.Minus mark v x h y
element_good at r is o.Star mark v x h y = change_element_good r is o.Star mark v x h y
element_good at r is o.SlashSlash mark v x h y = change_element_good r is o.SlashSlash mark v x h y
element_good at r is o.Percent mark v x h y = change_element_good r is o.Percent mark v x h y

pub assign_good : (at : ℕ) (head : Head) (op : Assignment) (mark : ℕ) (v : Making) → GoodHead head → Good Always Term v → Good Always Term (a.assign at head op mark v)
assign_good at NoHead op mark v h y = good_nil Always at
assign_good at (Variable name) op mark v h y = assign_variable_good at name op mark v y
assign_good at (Element place r is true) op mark v h y = good_nil Always at
assign_good at (Element place r is false) op mark v h y = element_good place r is op mark v h.0 h.1 y
assign_good at (Called place r name arguments false) op mark v h y = good_nil Always at
assign_good at (Called place None name arguments true) op mark v h y = assign_name_good at name op mark v y
assign_good at (Called place (Some r) name arguments true) op mark v h y = attribute_good place r name op mark v h.0 y

-- ---- declarations

declaration_one : (at : ℕ) (name : List ℕ) (p : Part) → GoodPart p → Good Always (sh.one sh.Member ∷ []) (d.declaration at name p)
unfolding d.declaration
declaration_one at name p h =
    with_name_good Always (sh.one sh.Member ∷ []) (variable name) (λ (id : NameId). wrapped (f.Declaration id) at (union at p)) always_keeps
    (λ id. good_wrapped (NameKept id) (f.Declaration id) at (union at p) (λ s w. knows_name (f.Declaration id) id s w.1 refl refl refl refl) tt (refl, tt) (good_where (NameKept id) (sh.one sh.Union ∷ []) (union at p) (union_good at p h)))

pub declaration_good : (at : ℕ) (name : List ℕ) (p : Part) → GoodPart p → Good Always Members (d.declaration at name p)
declaration_good at name p h = good_one_many Always sh.Member (d.declaration at name p) (declaration_one at name p h)

maybe_declaration_good : (at : ℕ) (name : List ℕ) (p : Option Part) → OneGood p → Good Always Members (d.maybe_declaration at name p)
maybe_declaration_good at name None h = good_none Always sh.Member
maybe_declaration_good at name (Some p) h = declaration_good at name p h

pub fields_good : (at : ℕ) (is_instance : Bool) (name : List ℕ) (p : Option Part) → OneGood p → Good Always Members (d.parameter_fields at is_instance name p)
fields_good at false name p h = good_none Always sh.Member
fields_good at true name p h = maybe_declaration_good at name p h

local_form_good : (W : State → Type 0) (at : ℕ) (id : NameId) (l : Option Local) → ((s : State) → W s → HasName id s) → ((s : State) → W s → MaySee l s) → Good W Term (leaf (d.local_form id l) at)
local_form_good W at id None there sees = good_wrapped W (f.Call id false false) at nothing (λ s w. knows_name (f.Call id false false) id s (there s w) refl refl refl refl) tt (refl, tt) (good_none W sh.Term)
local_form_good W at id (Some l) there sees = local_good W l at sees

abbrev Kept : NameId → Option Local → NameId → State → Type 0
Kept id l field s = (NameKept id s × MaySee l s) × HasName field s

pub kept_good : (at : ℕ) (name : List ℕ) → Good Always Term (d.kept at name)
unfolding d.kept
kept_good at name =
    let made = λ (id : NameId) (l : Option Local) (field : NameId). wrapped (f.SetField field) at (leaf (d.local_form id l) at) in
    with_name_good Always Term name (λ (id : NameId). using (found id) (λ (l : Option Local). using (named (variable name)) (made id l))) always_keeps
    (λ id. good_using (NameKept id) MaySee Term (found id) (λ (l : Option Local). using (named (variable name)) (made id l)) (name_kept id) (λ s i w. found_does id s i)
    (λ l. with_name_good (λ (s : State). NameKept id s × MaySee l s) Term (variable name) (made id l) (keeps_both (NameKept id) (MaySee l) (name_kept id) (keeps_maybe l))
    (λ field. good_wrapped (Kept id l field) (f.SetField field) at (leaf (d.local_form id l) at) (λ s w. knows_name (f.SetField field) field s w.1 refl refl refl refl) tt (refl, tt)
    (local_form_good (Kept id l field) at id l (λ s w. w.0.0.1) (λ s w. w.0.1)))))

-- ---- parameters

still_held : (at : ℕ) (p : Option Part) (s : State) → OneGood p → (held_union at p s).after.inner ≡ s.inner
unfolding wrapped nothing
still_held at None s h = refl
still_held at (Some p) s h = h.still.still s

knows_parameter : (id : NameId) (l : Local) (restricted : Bool) (s : State) → HasRun 0 l s → KnowsForm (f.Parameter l.slot restricted) s
knows_parameter id l restricted s w = record { names = (λ k x lt. absurd (omega (arith, lt))); text = tt; local = tt; parameter = omega (arith, w.2) }

no_parameter_parameter : (restricted : Bool) → NoParameter (where_told restricted sh.Union)
no_parameter_parameter true = (refl, tt)
no_parameter_parameter false = tt

parameter_told : (at : ℕ) (l : Local) (p : Option Part) (s : State) → l.scope ≡ s.inner.number → ToldIn s.inner.number l.scope l.slot (wrapped (f.Parameter l.slot (is_there p)) at (held_union at p) s).value
unfolding wrapped
parameter_told at l p s e = inl (sym e, refl)

parameter_one : (at : ℕ) (name : List ℕ) (p : Option Part) → OneGood p → Good Always (sh.one sh.Parameter ∷ []) (d.parameter at name p)
unfolding d.parameter
parameter_one at name p h =
    let made = λ (l : Local). wrapped (f.Parameter l.slot (is_there p)) at (held_union at p) in
    with_name_good Always (sh.one sh.Parameter ∷ []) name (λ (id : NameId). using (declared (Some id)) made) always_keeps
    (λ id. good_naming (NameKept id) (HasRun 0) (sh.one sh.Parameter ∷ []) (declared (Some id)) made (name_kept id) (λ s i w. naming_does id s w.1 i)
    (λ l. let W : State → Type 0 = λ s. NameKept id s × HasRun 0 l s in
    good_wrapped W (f.Parameter l.slot (is_there p)) at (held_union at p) (λ s w. knows_parameter id l (is_there p) s w.1) tt (no_parameter_parameter (is_there p))
    (good_where W (where_told (is_there p) sh.Union) (held_union at p) (union_held at p h)))
    (λ l s w. parameter_told at l p s w.1))

pub parameter_good : (at : ℕ) (name : List ℕ) (p : Option Part) → OneGood p → GoodParameters (d.parameter at name p)
unfolding d.parameter using wrapped
parameter_good at name p h = record {
  does = λ s i.
      let id = (named name s).value in
      let s1 = (named name s).after in
      let s2 = (declared (Some id) s1).after in
      record {
        does = (good_one_many Always sh.Parameter (d.parameter at name p) (parameter_one at name p h)).does s i tt;
        from = (refl, tt);
        many = let same = ap (λ (q : Opened). length q.slots) (still_held at p s2 h) in let more = length-append s.inner.slots (Some id ∷ []) in omega (arith, same, more);
      };
}

-- ---- methods

kept_lines : (b : Bool) (p : Part) (ms : List Making) → p.is_field ≡ b → GoodPart p → Goods Always Term ms → Goods Always Term (line b p.kept ms)
kept_lines true p ms e x h = (x.kept e, h)
kept_lines false p ms e x h = h

kept_all : (ps : List Part) → AllGood ps → Goods Always Term (d.kept_of ps)
kept_all [] h = tt
kept_all (p ∷ ps) h = kept_lines p.is_field p (d.kept_of ps) refl h.0 (kept_all ps h.1)

goods_append : (ms ks : List Making) → Goods Always Term ms → Goods Always Term ks → Goods Always Term (ms ++ ks)
goods_append [] ks x y = y
goods_append (m ∷ ms) ks x y = (x.0, goods_append ms ks x.1 y)

body_good : (at : ℕ) (ps list : List Part) → AllGood ps → AllGood list → Good Always Term (d.body at ps list)
unfolding d.body
body_good at ps list h g = good_sequence Always at (d.kept_of ps ++ statements_of list) always_keeps (goods_append (d.kept_of ps) (statements_of list) (kept_all ps h) (statements_all list g))

-- what comes behind the parameters
behind_good : (ps : List Portion) (m : Making) → Good Always ps m → Good Always ps (using with_parameters (λ (n : ℕ). m))
behind_good ps m x =
    good_using Always (λ (n : ℕ) (s : State). Unit {0}) ps with_parameters (λ (n : ℕ). m) always_keeps (λ s i w. with_parameters_does s i)
    (λ n. good_where (λ (s : State). Always s × Unit {0}) ps m x)

no_parameter_def : (result : Bool) → NoParameter (where_told result sh.Union ++ sh.one sh.Term ∷ [])
no_parameter_def true = (refl, (refl, tt))
no_parameter_def false = (refl, tt)

method_one : (at : ℕ) (name : List ℕ) (ps : List Part) (result : Option Part) (list : List Part) → AllGood ps → OneGood result → AllGood list → Good Always (sh.one sh.Member ∷ []) (d.method at name ps result list)
unfolding d.method
method_one at name ps result list h x g =
    let parameters = each (λ (p : Part). p.parameter) ps in
    let rest = held_union at result ▸ d.body at ps list in
    let behind = using with_parameters (λ (n : ℕ). rest) in
    let portions_of = where_told (is_there result) sh.Union ++ sh.one sh.Term ∷ [] in
    let rest_good = good_join Always (where_told (is_there result) sh.Union) Term (held_union at result) (d.body at ps list) always_keeps (union_held at result x) (body_good at ps list h g) in
    with_name_good Always (sh.one sh.Member ∷ []) name (λ (id : NameId). apart (λ (scope : ScopeId). wrapped (f.Def id scope (is_there result) true) at (parameters ▸ behind))) always_keeps
    (λ id. good_def (NameKept id) id at (is_there result) true (parameters ▸ behind) (λ s w. w.1)
    (λ s i empty. body_does portions_of parameters behind s (parameters_all ps h) (behind_good portions_of rest rest_good) (no_parameter_def (is_there result)) i empty))

fields_all : (ps : List Part) → AllGood ps → Goods Always Members (map (λ (p : Part). p.fields) ps)
fields_all [] h = tt
fields_all (p ∷ ps) h = (h.0.fields, fields_all ps h.1)

pub method_good : (at : ℕ) (name : List ℕ) (ps : List Part) (result : Option Part) (list : List Part) → AllGood ps → OneGood result → AllGood list → Good Always Members (d.method_members at name ps result list)
unfolding d.method_members
method_good at name ps result list h x g =
    good_many Always sh.Member (each (λ (p : Part). p.fields) ps) (d.method at name ps result list) always_keeps
    (good_all Always sh.Member (map (λ (p : Part). p.fields) ps) always_keeps (fields_all ps h)) (good_one_many Always sh.Member (d.method at name ps result list) (method_one at name ps result list h x g))

field_leaf_good : (at : ℕ) (name : List ℕ) → Good Always Term (using (named (variable name)) (λ (field : NameId). leaf (f.Field field) at))
field_leaf_good at name =
    with_name_good Always Term (variable name) (λ (field : NameId). leaf (f.Field field) at) always_keeps
    (λ id. good_leaf (NameKept id) (f.Field id) at (λ s w. knows_name (f.Field id) id s w.1 refl refl refl refl) tt refl)

reader_good : (at : ℕ) (name : List ℕ) → Good Always Members (d.reader at name)
unfolding d.reader
reader_good at name =
    let inside = using (named (variable name)) (λ (field : NameId). leaf (f.Field field) at) in
    let made = λ (id : NameId). apart (λ (scope : ScopeId). wrapped (f.Def id scope false false) at inside) in
    good_one_many Always sh.Member (using (named name) made)
    (with_name_good Always (sh.one sh.Member ∷ []) name made always_keeps
    (λ id. good_def (NameKept id) id at false false inside (λ s w. w.1) (λ s i empty. plain_does Term inside s (field_leaf_good at name) (refl, tt) i)))

writer_good : (at : ℕ) (name : List ℕ) (p : Option Part) → OneGood p → Good Always Members (d.writer at name p)
unfolding d.writer
writer_good at name p h =
    let behind = using with_parameters (λ (n : ℕ). d.kept at name) in
    let made = λ (id : NameId). apart (λ (scope : ScopeId). wrapped (f.Def id scope false false) at (d.parameter at name p ▸ behind)) in
    good_one_many Always sh.Member (using (named (setter name)) made)
    (with_name_good Always (sh.one sh.Member ∷ []) (setter name) made always_keeps
    (λ id. good_def (NameKept id) id at false false (d.parameter at name p ▸ behind) (λ s w. w.1)
    (λ s i empty. body_does Term (d.parameter at name p) behind s (parameter_good at name p h) (behind_good Term (d.kept at name) (kept_good at name)) (refl, tt) i empty)))

getter_good : (at : ℕ) (name : List ℕ) (p : Option Part) → OneGood p → Good Always Members (d.getter at name p)
unfolding d.getter
getter_good at name p h = good_many Always sh.Member (d.maybe_declaration at name p) (d.reader at name) always_keeps (maybe_declaration_good at name p h) (reader_good at name)

property_good : (at : ℕ) (name : List ℕ) (p : Option Part) → OneGood p → Good Always Members (d.property at name p)
unfolding d.property
property_good at name p h =
    good_many Always sh.Member (d.maybe_declaration at name p) (d.reader at name ▸ d.writer at name p) always_keeps (maybe_declaration_good at name p h)
    (good_many Always sh.Member (d.reader at name) (d.writer at name p) always_keeps (reader_good at name) (writer_good at name p h))

pub accessor_good : (at : ℕ) (name : List ℕ) (p : Option Part) (is_property : Bool) → OneGood p → Good Always Members (d.accessor at name p is_property)
accessor_good at name p false h = getter_good at name p h
accessor_good at name p true h = property_good at name p h

accessors_all : (is_property : Bool) (ps : List Part) → AllGood ps → Goods Always Members (map (λ (p : Part). p.accessor is_property) ps)
accessors_all is_property [] h = tt
accessors_all is_property (p ∷ ps) h = (h.0.accessor is_property, accessors_all is_property ps h.1)

pub accessors_good : (is_property : Bool) (ps : List Part) → AllGood ps → Good Always Members (d.accessors is_property ps)
accessors_good is_property ps h = good_all Always sh.Member (map (λ (p : Part). p.accessor is_property) ps) always_keeps (accessors_all is_property ps h)

-- ---- classes and modules

members_all : (ps : List Part) → AllGood ps → Goods Always Members (map (λ (p : Part). p.members) ps)
members_all [] h = tt
members_all (p ∷ ps) h = (h.0.members, members_all ps h.1)

pub members_good : (ps : List Part) → AllGood ps → Good Always Members (members_of ps)
members_good ps h = good_all Always sh.Member (map (λ (p : Part). p.members) ps) always_keeps (members_all ps h)

type_parameter_good : (at : ℕ) (name : List ℕ) → Good Always (sh.many sh.TypeParameter ∷ []) (d.type_parameter at name)
unfolding d.type_parameter
type_parameter_good at name =
    good_one_many Always sh.TypeParameter (using (named name) (λ (id : NameId). leaf (f.TypeParameter id) at))
    (with_name_good Always (sh.one sh.TypeParameter ∷ []) name (λ (id : NameId). leaf (f.TypeParameter id) at) always_keeps
    (λ id. good_leaf (NameKept id) (f.TypeParameter id) at (λ s w. knows_name (f.TypeParameter id) id s w.1 refl refl refl refl) tt refl))

type_parameters_all : (at : ℕ) (names : List (List ℕ)) → Goods Always (sh.many sh.TypeParameter ∷ []) (map (d.type_parameter at) names)
type_parameters_all at [] = tt
type_parameters_all at (x ∷ xs) = (type_parameter_good at x, type_parameters_all at xs)

class_inside : (at : ℕ) (parameters : List (List ℕ)) (ps : List Part) → AllGood ps → Good Always (sh.many sh.TypeParameter ∷ sh.many sh.Member ∷ []) (all (map (d.type_parameter at) parameters) ▸ members_of ps)
class_inside at parameters ps h =
    good_join Always (sh.many sh.TypeParameter ∷ []) Members (all (map (d.type_parameter at) parameters)) (members_of ps) always_keeps
    (good_all Always sh.TypeParameter (map (d.type_parameter at) parameters) always_keeps (type_parameters_all at parameters)) (members_good ps h)

class_alone : (at : ℕ) (id : NameId) (parameters : List (List ℕ)) (ps : List Part) → AllGood ps → Good (NameKept id) (sh.one sh.Member ∷ []) (d.class_with at id None parameters ps)
unfolding d.class_with
class_alone at id parameters ps h =
    let inside = all (map (d.type_parameter at) parameters) ▸ members_of ps in
    good_wrapped (NameKept id) (f.Class id None) at inside (λ s w. knows_name (f.Class id None) id s w.1 refl refl refl refl) tt (refl, (refl, tt))
    (good_where (NameKept id) (sh.many sh.TypeParameter ∷ sh.many sh.Member ∷ []) inside (class_inside at parameters ps h))

class_below_good : (at : ℕ) (id : NameId) (superclass : List ℕ) (parameters : List (List ℕ)) (ps : List Part) → AllGood ps → Good (NameKept id) (sh.one sh.Member ∷ []) (d.class_below at id superclass parameters ps)
unfolding d.class_below d.class_with
class_below_good at id superclass parameters ps h =
    let inside = all (map (d.type_parameter at) parameters) ▸ members_of ps in
    with_name_good (NameKept id) (sh.one sh.Member ∷ []) superclass (λ (above : NameId). wrapped (f.Class id (Some above)) at inside) (name_kept id)
    (λ above. let W : State → Type 0 = λ s. NameKept id s × HasName above s in
    good_wrapped W (f.Class id (Some above)) at inside (λ s w. knows_names (f.Class id (Some above)) id above s w.0.1 w.1 refl refl refl refl) tt (refl, (refl, tt))
    (good_where W (sh.many sh.TypeParameter ∷ sh.many sh.Member ∷ []) inside (class_inside at parameters ps h)))

class_by_good : (at : ℕ) (parameters : List (List ℕ)) (superclass : Option (List ℕ)) (ps : List Part) (id : NameId) → AllGood ps → Good (NameKept id) (sh.one sh.Member ∷ []) (d.class_by at parameters superclass ps id)
class_by_good at parameters None ps id h = class_alone at id parameters ps h
class_by_good at parameters (Some above) ps id h = class_below_good at id above parameters ps h

pub class_good : (at : ℕ) (name : List ℕ) (parameters : List (List ℕ)) (superclass : Option (List ℕ)) (ps : List Part) → AllGood ps → Good Always Members (d.class at name parameters superclass ps)
unfolding d.class
class_good at name parameters superclass ps h =
    good_one_many Always sh.Member (using (named name) (d.class_by at parameters superclass ps))
    (with_name_good Always (sh.one sh.Member ∷ []) name (d.class_by at parameters superclass ps) always_keeps (λ id. class_by_good at parameters superclass ps id h))

pub module_good : (at : ℕ) (name : List ℕ) (ps : List Part) → AllGood ps → Good Always Members (d.module_ at name ps)
unfolding d.module_
module_good at name ps h =
    good_one_many Always sh.Member (using (named name) (λ (id : NameId). wrapped (f.Module id) at (members_of ps)))
    (with_name_good Always (sh.one sh.Member ∷ []) name (λ (id : NameId). wrapped (f.Module id) at (members_of ps)) always_keeps
    (λ id. good_wrapped (NameKept id) (f.Module id) at (members_of ps) (λ s w. knows_name (f.Module id) id s w.1 refl refl refl refl) tt (refl, tt) (good_where (NameKept id) Members (members_of ps) (members_good ps h))))

pub include_good : (at : ℕ) (name : List ℕ) → Good Always Members (d.include at name)
unfolding d.include
include_good at name =
    good_one_many Always sh.Member (using (named name) (λ (id : NameId). leaf (f.Include id) at))
    (with_name_good Always (sh.one sh.Member ∷ []) name (λ (id : NameId). leaf (f.Include id) at) always_keeps
    (λ id. good_leaf (NameKept id) (f.Include id) at (λ s w. knows_name (f.Include id) id s w.1 refl refl refl refl) tt refl))

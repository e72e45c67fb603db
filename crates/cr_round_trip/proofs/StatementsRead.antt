-- Assignments and jumps are read from their layout.
use Rattle.std.proofs.Common.{◌≡◌, ℕ, suc, Bool, true, false, not, ◌&&◌, ◌||◌, List, [], ◌∷◌, ◌++◌, map, Option, Some, None, ◌⊎◌, refl, sym, ap, subst, ◌∙◌, inl, inr}
use Rattle.std.specs.Prelude.{IsTrue}
use Rattle.std.specs.Option.{option_map}
use Rattle.cr_syntax.specs.declared.look.TokenLook.{TokenLook}
use Rattle.cr_syntax.specs.declared.look.TokenLook.TheVariants as l
use Rattle.cr_syntax.specs.declared.token.TokenKind.TheVariants as k
use Rattle.cr_syntax.specs.Look.{look_of}
use Rattle.cr_grammar.specs.declared.operator.Assignment.{Assignment}
use Rattle.cr_grammar.specs.declared.operator.Assignment.TheVariants as assignment
use Rattle.cr_grammar.specs.declared.tree.Tree.{Tree}
use Rattle.cr_grammar.specs.declared.tree.Tree.TheVariants as tree
use Rattle.cr_grammar.specs.declared.within.Within.{Within}
use Rattle.cr_grammar.specs.declared.wanted.Wanted.{Wanted}
use Rattle.cr_grammar.specs.declared.wanted.Wanted.TheVariants.{Simple}
use Rattle.cr_grammar.specs.Wanted.{in_object}
use Rattle.cr_grammar.specs.Forms.{Form, nothing, ◌>>=◌, ◌>>◌, ◌<|>◌, maybe, word, passing, from_first, place_of}
use Rattle.cr_grammar.specs.Operators as o
use Rattle.cr_grammar.specs.Same.{unplaced}
use Rattle.cr_grammar.specs.Expressions as ex
use Rattle.cr_grammar.specs.Grammar as g
use Rattle.cr_pieces.specs.Pieces.{Piece, Put}
use Rattle.cr_pieces.specs.Fits.{spaced_behind}
use Rattle.cr_pretty.specs.Layout as y
use Rattle.cr_pretty.specs.Layout.{Laid, laid, bare, operand, space, assignment_look}
use Rattle.cr_pretty.proofs.Laid as of
use Rattle.cr_round_trip.proofs.Known.{All, Any}
use Rattle.cr_round_trip.proofs.Closed.{OfField}
use Rattle.cr_round_trip.proofs.Fit.{pieces_assoc}
use Rattle.cr_round_trip.proofs.Unplaced as un
use Rattle.cr_round_trip.proofs.Reading.{Scheme, Reads, Like, AllLike, AnyLike, via, as_pieces, then, gives, on, on_word, on_name, spaced, one_of, other, under, none, some_one, at_tight}
use Rattle.cr_round_trip.proofs.Values.{begins_plainly, Value, value_by, as_simple, as_operand, as_given, given_closes, closes_behind, operand_closes, plain_front, operand_plain}
use Rattle.cr_round_trip.proofs.Lines.{then_last}
use Rattle.cr_round_trip.proofs.CallsRead.{same_call, some_like}
use Rattle.cr_round_trip.proofs.LinksRead.{index_list, indices_read, same_index}

-- ---- which tokens assign

any_is : (op : Assignment) → o.any_assignment (assignment_look op) ≡ Some op
any_is assignment.Plain = refl
any_is assignment.Plus = refl
any_is assignment.Minus = refl
any_is assignment.Star = refl
any_is assignment.SlashSlash = refl
any_is assignment.Percent = refl
any_is assignment.Or = refl

field_is : (op : Assignment) → OfField op → o.field_assignment (assignment_look op) ≡ Some op
field_is assignment.Plain apart = refl
field_is assignment.Plus apart = refl
field_is assignment.Minus apart = refl
field_is assignment.Star apart = refl
field_is assignment.SlashSlash apart = refl
field_is assignment.Percent apart = refl
field_is assignment.Or apart = absurd (apart refl)

-- ---- what is assigned

abbrev PlainTarget : Within → Scheme Tree
PlainTarget within S = g.local S within <|> ex.variable S within true

pub record TargetRead (within : Within) (op : Assignment) (x : Tree) : Type 0 where
  pub reads : ((level : ℕ) (s : Bool) → Reads (PlainTarget within) (Like x) s (bare level (laid x))) ⊎ (OfField op × ((level : ℕ) (s : Bool) → Reads (λ S. g.place S within) (Like x) s (bare level (laid x))))
  pub plain : (level : ℕ) → begins_plainly (bare level (laid x)) ≡ true

pub local_target : (within : Within) (op : Assignment) (at : ℕ) (name : List ℕ) → TargetRead within op (tree.Call at None name [] None)
local_target within op at name = record {
  reads = inl (λ level s. subst (λ (v : Laid). Reads (PlainTarget within) (Like (tree.Call at None name [] None)) s (bare level v)) (sym (of.of_call at None name [] None))
      (one_of (on_name (λ text. k.Ident text) name [] (λ place. gives (tree.Call place None name [] None) (same_call at place None None name [] [] None None refl refl refl)))));
  plain = λ level. ap (λ (v : Laid). begins_plainly (bare level v)) (of.of_call at None name [] None);
}

pub variable_target : (within : Within) (op : Assignment) (at : ℕ) (name : List ℕ) → IsTrue (in_object within) → TargetRead within op (tree.InstanceVariable at name)
variable_target within op at name is = record {
  reads = inl (λ level s. subst (λ (v : Laid). Reads (PlainTarget within) (Like (tree.InstanceVariable at name)) s (bare level v)) (sym (of.of_instance_variable at name))
      (other (under is (on_name (λ text. k.InstanceVariable text) name [] (λ place. gives (tree.InstanceVariable place name) (simp (un.constructs)))))));
  plain = λ level. ap (λ (v : Laid). begins_plainly (bare level v)) (of.of_instance_variable at name);
}

pub field_target : (within : Within) (op : Assignment) (at : ℕ) (x : Tree) (name : List ℕ) → OfField op → Value within x → TargetRead within op (tree.Call at (Some x) name [] None)
field_target within op at x name apart hx = record {
  reads = inr (
    apart,
    λ level s.
        let ps = operand level (laid x) in
        subst (λ (v : Laid). Reads (λ S. g.place S within) (Like (tree.Call at (Some x) name [] None)) s (bare level v)) (sym (of.of_call at (Some x) name [] None))
        (as_pieces ((ps ++ y.word l.Dot ∷ []) ++ Put (k.Ident name) ∷ []) (ps ++ (y.word l.Dot ∷ Put (k.Ident name) ∷ [])) (pieces_assoc ps (y.word l.Dot ∷ []) (Put (k.Ident name) ∷ []))
        (one_of (then ps (y.word l.Dot ∷ Put (k.Ident name) ∷ []) (as_operand within x hx level s) (λ z p. on_word l.Dot (Put (k.Ident name) ∷ []) (λ place. on_name (λ text. k.Ident text) name []
        (λ place'. gives (tree.Call place' (Some z) name [] None) (same_call at place' (Some x) (Some z) name [] [] None None (some_like x z p) refl refl))))))),
  );
  plain = λ level. subst (λ (v : Laid). begins_plainly (bare level v) ≡ true) (sym (of.of_call at (Some x) name [] None))
      (plain_front (operand level (laid x) ++ y.word l.Dot ∷ []) (Put (k.Ident name) ∷ []) (plain_front (operand level (laid x)) (y.word l.Dot ∷ []) (operand_plain within x hx level)));
}

pub index_target : (within : Within) (op : Assignment) (at : ℕ) (x z : Tree) (zs : List Tree) → OfField op → Value within x → All (Value within) (z ∷ zs) → TargetRead within op (tree.Index at x (z ∷ zs) false)
index_target within op at x z zs apart hx hs = record {
  reads = inr (
    apart,
    λ level s.
        let ps = operand level (laid x) in let qs = index_list level (z ∷ zs) in
        subst (λ (v : Laid). Reads (λ S. g.place S within) (Like (tree.Index at x (z ∷ zs) false)) s (bare level v)) (sym (of.of_index at x (z ∷ zs) false))
        (other (then ps qs (as_operand within x hx level s) (λ v p. then_last qs (at_tight qs (operand_closes within x hx level s) (indices_read within level z zs hs))
        (λ found h. gives (tree.Index found.0 v found.1 false) (same_index at found.0 x v (z ∷ zs) found.1 false false p h refl))))),
  );
  plain = λ level. subst (λ (v : Laid). begins_plainly (bare level v) ≡ true) (sym (of.of_index at x (z ∷ zs) false)) (plain_front (operand level (laid x)) (index_list level (z ∷ zs)) (operand_plain within x hx level));
}

-- ---- assignments

placed : {A : Type 0} {R : (Wanted → Form Tree) → ℕ → Form A} {P : A → Type 0} {s : Bool} {ps : List Piece} → ((at : ℕ) → Reads (λ S. R S at) P s ps) → Reads (λ S. from_first (R S)) P s ps
placed h = record { found = λ w b. let f = (h (place_of w)).found w b in record { result = f.result; passes = f.passes; depth = f.depth; spells = f.spells } }

module _ (within : Within) (at : ℕ) (x : Tree) (op : Assignment) (op_at : ℕ) (value : Tree) (hv : Value within value) where
  abbrev assign_pieces : ℕ → List Piece
  assign_pieces level = bare level (laid x) ++ space ∷ y.word (assignment_look op) ∷ space ∷ bare level (laid value)

  same_assign : (place place' : ℕ) (z v : Tree) → Like x z → Like value v → Like (tree.Assign at x op op_at value) (tree.Assign place z op place' v)
  same_assign place place' z v p q = un.of_assign place z op place' v ∙ ap (λ (u : Tree). tree.Assign 0 u op 0 (unplaced v)) p ∙ ap (λ (u : Tree). tree.Assign 0 (unplaced x) op 0 u) q ∙ sym (un.of_assign at x op op_at value)

  assigned_reads : (target : Scheme Tree) (table : TokenLook → Option Assignment) → table (assignment_look op) ≡ Some op → ((level : ℕ) (s : Bool) → Reads target (Like x) s (bare level (laid x))) → (level : ℕ) (s : Bool)
      → Reads (λ S. g.assigned S within (target S) table) (Like (tree.Assign at x op op_at value)) s (assign_pieces level)
  assigned_reads target table is reads level s =
      placed {R = λ S place. target S >>= (λ z. g.assigning S within table >>= (λ found. S (Simple within) >>= (λ v. nothing (tree.Assign place z found.1 found.0 v))))} (λ place.
      then (bare level (laid x)) (space ∷ y.word (assignment_look op) ∷ space ∷ bare level (laid value)) (reads level s) (λ z p. spaced 1 (y.word (assignment_look op) ∷ space ∷ bare level (laid value))
      (on (k.Plain (assignment_look op)) (space ∷ bare level (laid value)) (λ t. ((t.span).first, op)) (λ S t e. (t, refl, (ap table (ap look_of e) ∙ is, refl))) (λ t. spaced 1 (bare level (laid value))
      (then_last (bare level (laid value)) (as_simple within value hv level true) (λ v q. gives (tree.Assign place z op (t.span).first v) (same_assign place (t.span).first z v p q)))))))

  pub assign_read : TargetRead within op x → Value within (tree.Assign at x op op_at value)
  assign_read target = value_by within (tree.Assign at x op op_at value) (of.of_assign at x op op_at value) (record {
    reads = λ level s. one_of (by_target target.reads level s);
    closes = λ level s. closes_behind s (bare level (laid x)) (space ∷ y.word (assignment_look op) ∷ space ∷ bare level (laid value)) (λ t. hv.closes level true);
    plain = λ shape level. plain_front (bare level (laid x)) _ (target.plain level);
  })
    where
      by_target : ((level : ℕ) (s : Bool) → Reads (PlainTarget within) (Like x) s (bare level (laid x))) ⊎ (OfField op × ((level : ℕ) (s : Bool) → Reads (λ S. g.place S within) (Like x) s (bare level (laid x)))) → (level : ℕ) (s : Bool)
          → Reads (λ S. g.assignment S within) (Like (tree.Assign at x op op_at value)) s (assign_pieces level)
      by_target (inl reads) level s = one_of (assigned_reads (PlainTarget within) o.any_assignment (any_is op) reads level s)
      by_target (inr (apart, reads)) level s = other (assigned_reads (λ S. g.place S within) o.field_assignment (field_is op apart) reads level s)

-- ---- jumps

gift_reads : (within : Within) (level : ℕ) (value : Option Tree) → Any (Value within) value → (s : Bool) → Reads (λ S. maybe (passing o.begins_no_modifier (ex.or S within true))) (AnyLike value) s (y.gift level (option_map laid value))
gift_reads within level None h s = none refl
gift_reads within level (Some x) h s = some_one {P = Like x} (λ z q. some_like x z q) (spaced 1 (y.given level (laid x)) (as_given within x h level true))

gift_closes : (within : Within) (level : ℕ) (value : Option Tree) → Any (Value within) value → spaced_behind false (y.gift level (option_map laid value)) ≡ false
gift_closes within level None h = refl
gift_closes within level (Some x) h = given_closes within x h level true

leaving_reads : (within : Within) (seen : TokenLook) (make : ℕ → Option Tree → Tree) (P : Tree → Type 0) (level : ℕ) (value : Option Tree) → Any (Value within) value → ((place : ℕ) (z : Option Tree) → AnyLike value z → P (make place z)) → (s : Bool)
    → Reads (λ S. g.leaving S within seen make) P s (y.word seen ∷ y.gift level (option_map laid value))
leaving_reads within seen make P level value hv h s = on_word seen (y.gift level (option_map laid value)) (λ place. then_last (y.gift level (option_map laid value)) (gift_reads within level value hv _) (λ z q. gives (make place z) (h place z q)))

pub return_read : (within : Within) (at : ℕ) (value : Option Tree) → IsTrue (within.method && not within.block) → Any (Value within) value → Value within (tree.Return at value)
return_read within at value is h = value_by within (tree.Return at value) (of.of_return at value) (record {
  reads = λ level s. other (other (one_of (one_of (under is (leaving_reads within l.Return (λ place z. tree.Return place z) (Like (tree.Return at value)) level value h
      (λ place z q. un.of_return place z ∙ ap (λ (v : Option Tree). tree.Return 0 v) q ∙ sym (un.of_return at value)) s)))));
  closes = λ level s. gift_closes within level value h;
  plain = λ shape level. refl;
})

pub next_read : (within : Within) (at : ℕ) (value : Option Tree) → IsTrue (within.in_loop || within.block) → Any (Value within) value → Value within (tree.Next at value)
next_read within at value is h = value_by within (tree.Next at value) (of.of_next at value) (record {
  reads = λ level s. other (other (one_of (other (one_of (under is (leaving_reads within l.Next (λ place z. tree.Next place z) (Like (tree.Next at value)) level value h
      (λ place z q. un.of_next place z ∙ ap (λ (v : Option Tree). tree.Next 0 v) q ∙ sym (un.of_next at value)) s))))));
  closes = λ level s. gift_closes within level value h;
  plain = λ shape level. refl;
})

pub break_read : (within : Within) (at : ℕ) → IsTrue within.in_loop → Value within (tree.Break at)
break_read within at is = value_by within (tree.Break at) (of.of_break at) (record {
  reads = λ level s. other (other (one_of (other (other (under is (on_word l.Break [] (λ place. gives (tree.Break place) (simp (un.constructs)))))))));
  closes = λ level s. refl;
  plain = λ shape level. refl;
})

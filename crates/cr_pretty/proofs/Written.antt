-- Steps of writing.
use Rattle.std.proofs.Common.{◌≡◌, ℕ, suc, ◌+◌, ◌-◌, ◌<◌, ◌≤◌, Bool, true, false, cond, ◌==◌, List, [], ◌∷◌, ◌++◌, map, length, take, drop, get_or, drop-cons, refl, sym, ap, subst, ◌∙◌, arith, append_assoc}
use Rattle.std.specs.Str.{bytes_eq}
use Rattle.std.proofs.lemmas.Slice.Eq.{bytes_eq-Decides}
use Rattle.std.proofs.lemmas.Bool.{eqb-true}
use Rattle.std.proofs.Math.Seq.{take-length, drop-append_seam, take-append_seam}
use Rattle.std.proofs.lemmas.List.{append-nil, length-append}
use Rattle.cr_syntax.specs.declared.look.TokenLook.{TokenLook}
use Rattle.cr_syntax.specs.declared.look.TokenLook.TheVariants as l
use Rattle.cr_syntax.specs.declared.token.TokenKind.TheVariants as k
use Rattle.cr_syntax.specs.Words.{is_digit, begins}
use Rattle.cr_grammar.specs.declared.tree.Tree.{Tree}
use Rattle.cr_grammar.specs.Operators as o
use Rattle.cr_pieces.specs.Pieces.{Piece, Put, spelling, text_of}
use Rattle.cr_pieces.specs.Writes.{Writes}
use Rattle.cr_pieces.proofs.Joined.{text_append}
use Rattle.cr_pieces.proofs.Written.{both}
use Rattle.cr_pretty.specs.declared.manner.Manner.{Manner}
use Rattle.cr_pretty.specs.declared.part.Part.{Part}
use Rattle.cr_pretty.specs.declared.step.Step.{Step}
use Rattle.cr_pretty.specs.Layout as y
use Rattle.cr_pretty.specs.Layout.{Laid, laid, word}
use Rattle.cr_pretty.specs.Parts.{between, placed, constants, digit_enclosed, part_pieces, all_pieces, step_pieces, all_steps}

-- ---- lists that are not empty

pub some_arguments : (level : ℕ) (xs : List Tree) → (xs ≡ [] → ⊥) → y.parenthesized (y.listed (map (y.argument level) (map laid xs))) ≡ y.arguments level (map laid xs)
some_arguments level [] some = absurd (some refl)
some_arguments level (x ∷ xs) some = refl

pub some_listed : (level : ℕ) (xs : List Tree) → (xs ≡ [] → ⊥) → y.parenthesized (y.listed (map (y.bare level) (map laid xs))) ≡ y.in_parentheses (map (y.bare level) (map laid xs))
some_listed level [] some = absurd (some refl)
some_listed level (x ∷ xs) some = refl

pub some_parameters : (level : ℕ) (xs : List Tree) → (xs ≡ [] → ⊥)
    → y.space ∷ word l.Pipe ∷ (y.listed (map (y.bare level) (map laid xs)) ++ word l.Pipe ∷ []) ≡ y.block_parameters level (map laid xs)
some_parameters level [] some = absurd (some refl)
some_parameters level (x ∷ xs) some = refl

pub some_constants : (names : List (List ℕ)) → (names ≡ [] → ⊥) → y.parenthesized (y.listed (constants names)) ≡ y.in_parentheses (constants names)
some_constants [] some = absurd (some refl)
some_constants (x ∷ xs) some = refl

-- ---- the name in a `def`

is_same : (text other : List ℕ) → bytes_eq text other ≡ true → other ≡ text
is_same text other e = sym ((bytes_eq-Decides text other).0 e)

setter_text : (text : List ℕ) → y.is_setter text ≡ true → take (length text - 1) text ++ 61 ∷ [] ≡ text
setter_text [] e = absurd cc
setter_text (b ∷ []) e = ap (λ (c : ℕ). c ∷ []) (sym (eqb-true b 61 e))
setter_text (b ∷ c ∷ bs) e =
    let one : length (b ∷ c ∷ bs) - 1 ≡ suc (length (c ∷ bs) - 1) = omega arith in
    ap (λ (i : ℕ). take i (b ∷ c ∷ bs) ++ 61 ∷ []) one ∙ ap (λ (xs : List ℕ). b ∷ xs) (setter_text (c ∷ bs) e)

plain_name : (text : List ℕ) → text_of (y.name_among [] text) ≡ text
plain_name text = by_test (y.is_setter text) refl
  where
    by_test : (t : Bool) → y.is_setter text ≡ t → text_of (cond t (Put (k.Ident (take (length text - 1) text)) ∷ word l.Equal ∷ []) (Put (k.Ident text) ∷ [])) ≡ text
    by_test true is = setter_text text is
    by_test false is = append-nil text

among_text : (looks : List TokenLook) (text : List ℕ) → text_of (y.name_among looks text) ≡ text
among_text [] text = plain_name text
among_text (look ∷ looks) text = by_test (bytes_eq (spelling look) text) refl (among_text looks text)
  where
    by_test : (t : Bool) → bytes_eq (spelling look) text ≡ t → text_of (y.name_among looks text) ≡ text → text_of (cond t (word look ∷ []) (y.name_among looks text)) ≡ text
    by_test true is rest = append-nil (spelling look) ∙ (bytes_eq-Decides (spelling look) text).0 is
    by_test false is rest = rest

-- A name is written as it is held.
pub method_name_text : (text : List ℕ) → text_of (y.method_name text) ≡ text
method_name_text text = by_tests (bytes_eq text o.index_name) (bytes_eq text o.index_set_name) (bytes_eq text o.index_question_name) refl refl refl
  where
    by_tests : (t u v : Bool) → bytes_eq text o.index_name ≡ t → bytes_eq text o.index_set_name ≡ u → bytes_eq text o.index_question_name ≡ v
        → text_of (cond t (word l.OpenBracket ∷ word l.CloseBracket ∷ []) (cond u (word l.OpenBracket ∷ word l.CloseBracket ∷ word l.Equal ∷ [])
        (cond v (word l.OpenBracket ∷ word l.CloseBracket ∷ word l.Question ∷ []) (y.name_among y.operator_looks text)))) ≡ text
    by_tests true u v d e f = is_same text o.index_name d
    by_tests false true v d e f = is_same text o.index_set_name e
    by_tests false false true d e f = is_same text o.index_question_name f
    by_tests false false false d e f = among_text y.operator_looks text

pub name_written : (text a b : List ℕ) → b ≡ a ++ text → Writes (y.method_name text) a b
name_written text a b e = record { is = e ∙ ap (λ (x : List ℕ). a ++ x) (sym (method_name_text text)) }

-- ---- parentheses

pub enclosed_written : (wanted : Bool) (ps : List Piece) (a b c d : List ℕ) → wanted ≡ true → Writes (word l.OpenParenthesis ∷ []) a b → Writes ps b c → Writes (word l.CloseParenthesis ∷ []) c d
    → Writes (y.enclosed wanted ps) a d
enclosed_written true ps a b c d is u v w = both (word l.OpenParenthesis ∷ []) (ps ++ word l.CloseParenthesis ∷ []) a b d u (both ps (word l.CloseParenthesis ∷ []) b c d v w)
enclosed_written false ps a b c d is u v w = absurd cc

-- the bytes are in parentheses just where the pieces are
enclosed_text : (ps : List Piece) → digit_enclosed (text_of ps) ≡ text_of (y.negated ps)
enclosed_text ps = by_test (begins is_digit (text_of ps))
  where
    by_test : (t : Bool) → cond t (40 ∷ (text_of ps ++ 41 ∷ [])) (text_of ps) ≡ text_of (y.enclosed t ps)
    by_test true = ap (λ (x : List ℕ). 40 ∷ x) (sym (text_append ps (word l.CloseParenthesis ∷ [])))
    by_test false = refl

pub negated_written : (ps : List Piece) (first : ℕ) (a b c : List ℕ) → first ≡ length a → Writes ps a b → c ≡ take first b ++ digit_enclosed (drop first b) → Writes (y.negated ps) a c
negated_written ps first a b c is w e = record {
  is = e ∙ ap (λ (n : ℕ). take n b ++ digit_enclosed (drop n b)) is
      ∙ ap (λ (x : List ℕ). take (length a) x ++ digit_enclosed (drop (length a) x)) w.is
      ∙ ap (λ (x : List ℕ). x ++ digit_enclosed (drop (length a) (a ++ text_of ps))) (take-append_seam a (text_of ps))
      ∙ ap (λ (x : List ℕ). a ++ digit_enclosed x) (drop-append_seam a (text_of ps))
      ∙ ap (λ (x : List ℕ). a ++ x) (enclosed_text ps);
}

pub room_written : (ps : List Piece) (first : ℕ) (a b : List ℕ) → first ≡ length a → Writes ps a b → first ≤ length b
room_written ps first a b is w = let e = w.is in omega (arith, length-append a (text_of ps), ap length e)

-- ---- lists

item_at : (xs : List Tree) (i : ℕ) (x : Tree) → i < length xs → x ≡ get_or xs i x → drop i xs ≡ x ∷ drop (i + 1) xs
item_at xs i x below is = drop-cons xs i x below ∙ ap (λ (z : Tree). z ∷ drop (suc i) xs) (sym is) ∙ ap (λ (n : ℕ). x ∷ drop n xs) (let e : suc i ≡ i + 1 = omega arith in e)

-- one more turn of a loop over what is left
turn : (ps qs : List Piece) (a b z : List ℕ) → Writes ps a b → a ++ text_of (ps ++ qs) ≡ z → b ++ text_of qs ≡ z
turn ps qs a b z w e = ap (λ (v : List ℕ). v ++ text_of qs) w.is ∙ append_assoc a (text_of ps) (text_of qs) ∙ ap (λ (v : List ℕ). a ++ v) (sym (text_append ps qs)) ∙ e

next_from : (i : ℕ) → suc i ≡ i + 1
next_from i = omega arith

-- the same for parts and for steps
pub parts_turn : (ps : List Part) (level i : ℕ) (p : Part) (a b z : List ℕ) → i < length ps → Writes (part_pieces level (get_or ps i p)) a b
    → a ++ text_of (all_pieces level (drop i ps)) ≡ z → b ++ text_of (all_pieces level (drop (i + 1) ps)) ≡ z
parts_turn ps level i p a b z below w e =
    let here : a ++ text_of (part_pieces level (get_or ps i p) ++ all_pieces level (drop (suc i) ps)) ≡ z = ap (λ (qs : List Part). a ++ text_of (all_pieces level qs)) (sym (drop-cons ps i p below)) ∙ e in
    ap (λ (n : ℕ). b ++ text_of (all_pieces level (drop n ps))) (sym (next_from i)) ∙ turn (part_pieces level (get_or ps i p)) (all_pieces level (drop (suc i) ps)) a b z w here

pub steps_turn : (ss : List Step) (level i : ℕ) (s : Step) (a b z : List ℕ) → i < length ss → Writes (step_pieces level (get_or ss i s)) a b
    → a ++ text_of (all_steps level (drop i ss)) ≡ z → b ++ text_of (all_steps level (drop (i + 1) ss)) ≡ z
steps_turn ss level i s a b z below w e =
    let here : a ++ text_of (step_pieces level (get_or ss i s) ++ all_steps level (drop (suc i) ss)) ≡ z = ap (λ (qs : List Step). a ++ text_of (all_steps level qs)) (sym (drop-cons ss i s below)) ∙ e in
    ap (λ (n : ℕ). b ++ text_of (all_steps level (drop n ss))) (sym (next_from i)) ∙ turn (step_pieces level (get_or ss i s)) (all_steps level (drop (suc i) ss)) a b z w here

pub lines_turn : (xs : List Tree) (level i : ℕ) (x : Tree) (a b d z : List ℕ) → i < length xs → x ≡ get_or xs i x → Writes (y.line level) a b → Writes (y.bare level (laid x)) b d
    → a ++ text_of (y.lines level (map laid (drop i xs))) ≡ z → d ++ text_of (y.lines level (map laid (drop (i + 1) xs))) ≡ z
lines_turn xs level i x a b d z below is w v e =
    let rest = y.lines level (map laid (drop (i + 1) xs)) in
    let here : a ++ text_of (y.line level ++ (y.bare level (laid x) ++ rest)) ≡ z = ap (λ (ys : List Tree). a ++ text_of (y.lines level (map laid ys))) (sym (item_at xs i x below is)) ∙ e in
    turn (y.bare level (laid x)) rest b d z v (turn (y.line level) (y.bare level (laid x) ++ rest) a b z w here)

pub items_turn : (xs : List Tree) (i : ℕ) (x : Tree) (a b d z : List ℕ) → i < length xs → x ≡ get_or xs i x → Writes (y.bare 0 (laid x)) a b → Writes (word l.Newline ∷ []) b d
    → a ++ text_of (y.items (map laid (drop i xs))) ≡ z → d ++ text_of (y.items (map laid (drop (i + 1) xs))) ≡ z
items_turn xs i x a b d z below is w v e =
    let rest = y.items (map laid (drop (i + 1) xs)) in
    let here : a ++ text_of (y.bare 0 (laid x) ++ word l.Newline ∷ rest) ≡ z = ap (λ (ys : List Tree). a ++ text_of (y.items (map laid ys))) (sym (item_at xs i x below is)) ∙ e in
    turn (word l.Newline ∷ []) rest b d z v (turn (y.bare 0 (laid x)) (word l.Newline ∷ rest) a b z w here)

pub more_turn : (xs : List Tree) (manner : Manner) (level i : ℕ) (x : Tree) (a b d z : List ℕ) → i < length xs → x ≡ get_or xs i x → Writes (between manner) a b → Writes (placed manner level (laid x)) b d
    → a ++ text_of (y.more_joined (between manner) (map (placed manner level) (map laid (drop i xs)))) ≡ z
    → d ++ text_of (y.more_joined (between manner) (map (placed manner level) (map laid (drop (i + 1) xs)))) ≡ z
more_turn xs manner level i x a b d z below is w v e =
    let rest = y.more_joined (between manner) (map (placed manner level) (map laid (drop (i + 1) xs))) in
    let here : a ++ text_of (between manner ++ (placed manner level (laid x) ++ rest)) ≡ z =
    ap (λ (ys : List Tree). a ++ text_of (y.more_joined (between manner) (map (placed manner level) (map laid ys)))) (sym (item_at xs i x below is)) ∙ e in
    turn (placed manner level (laid x)) rest b d z v (turn (between manner) (placed manner level (laid x) ++ rest) a b z w here)

-- all but the first
rest_of : {A : Type 0} (x : A) (xs : List A) → take (length (x ∷ xs) - 1) (drop 1 (x ∷ xs)) ≡ xs
rest_of x xs = let one : length (x ∷ xs) - 1 ≡ length xs = omega arith in ap (λ (n : ℕ). take n xs) one ∙ take-length xs

pub list_written : (xs : List Tree) (manner : Manner) (level : ℕ) (x : Tree) (a b d : List ℕ) → 1 ≤ length xs → x ≡ get_or xs 0 x → Writes (placed manner level (laid x)) a b
    → Writes (y.more_joined (between manner) (map (placed manner level) (map laid (take (length xs - 1) (drop 1 xs))))) b d
    → Writes (y.joined (between manner) (map (placed manner level) (map laid xs))) a d
list_written [] manner level x a b d some is w v = absurd (omega arith)
list_written (z ∷ zs) manner level x a b d some is w v =
    subst (λ (q : Tree). Writes (y.joined (between manner) (map (placed manner level) (map laid (q ∷ zs)))) a d) is
    (both (placed manner level (laid x)) (y.more_joined (between manner) (map (placed manner level) (map laid zs))) a b d w
    (subst (λ (qs : List Tree). Writes (y.more_joined (between manner) (map (placed manner level) (map laid qs))) b d) (rest_of z zs) v))

-- ---- texts with insertions

argument_written : (x : Tree) (level : ℕ) (wanted : Bool) (a b : List ℕ) → wanted ≡ y.argument_encloses (y.shape_of (laid x)) → Writes (y.enclosed wanted (y.bare level (laid x))) a b → Writes (y.argument level (laid x)) a b
argument_written x level wanted a b e w = subst (λ (t : Bool). Writes (y.enclosed t (y.bare level (laid x))) a b) e w

not_zero : (n : ℕ) → true ≡ (suc n == 0) → ⊥
not_zero n e = let no = eqb-true (suc n) 0 (sym e) in absurd (omega arith)

pub part_turn : (ps : List (List ℕ)) (xs : List Tree) (level i : ℕ) (x : Tree) (part : List ℕ) (wanted : Bool) (a b d z : List ℕ) → 1 ≤ length ps → part ≡ get_or ps 0 part → i < length xs → x ≡ get_or xs i x
    → wanted ≡ y.argument_encloses (y.shape_of (laid x)) → Writes (y.enclosed wanted (y.bare level (laid x))) a b → false ≡ (length (take (length ps - 1) (drop 1 ps)) == 0) → Writes (Put (k.TextMiddle part) ∷ []) b d
    → a ++ text_of (y.more_parts level ps (map laid (drop i xs))) ≡ z → d ++ text_of (y.more_parts level (take (length ps - 1) (drop 1 ps)) (map laid (drop (i + 1) xs))) ≡ z
part_turn [] xs level i x part wanted a b d z some first below is shape w more v e = absurd (omega arith)
part_turn (p ∷ []) xs level i x part wanted a b d z some first below is shape w more v e = absurd cc
part_turn (p ∷ q ∷ qs) xs level i x part wanted a b d z some first below is shape w more v e =
    let rest = y.more_parts level (q ∷ qs) (map laid (drop (i + 1) xs)) in
    let here : a ++ text_of (y.argument level (laid x) ++ Put (k.TextMiddle p) ∷ rest) ≡ z =
    ap (λ (ys : List Tree). a ++ text_of (y.more_parts level (p ∷ q ∷ qs) (map laid ys))) (sym (item_at xs i x below is)) ∙ e in
    let middle : Writes (Put (k.TextMiddle p) ∷ []) b d = subst (λ (text : List ℕ). Writes (Put (k.TextMiddle text) ∷ []) b d) first v in
    ap (λ (left : List (List ℕ)). d ++ text_of (y.more_parts level left (map laid (drop (i + 1) xs)))) (rest_of p (q ∷ qs))
    ∙ turn (Put (k.TextMiddle p) ∷ []) rest b d z middle (turn (y.argument level (laid x)) (Put (k.TextMiddle p) ∷ rest) a b z (argument_written x level wanted a b shape w) here)

pub part_last : (ps : List (List ℕ)) (xs : List Tree) (level i : ℕ) (x : Tree) (part : List ℕ) (wanted : Bool) (a b d a0 : List ℕ) (whole : List Piece) → 1 ≤ length ps → part ≡ get_or ps 0 part → i < length xs → x ≡ get_or xs i x
    → wanted ≡ y.argument_encloses (y.shape_of (laid x)) → Writes (y.enclosed wanted (y.bare level (laid x))) a b → true ≡ (length (take (length ps - 1) (drop 1 ps)) == 0) → Writes (Put (k.TextLast part) ∷ []) b d
    → a ++ text_of (y.more_parts level ps (map laid (drop i xs))) ≡ a0 ++ text_of whole → Writes whole a0 d
part_last [] xs level i x part wanted a b d a0 whole some first below is shape w more v e = absurd (omega arith)
part_last (p ∷ []) xs level i x part wanted a b d a0 whole some first below is shape w more v e =
    let here : a ++ text_of (y.argument level (laid x) ++ Put (k.TextLast p) ∷ []) ≡ a0 ++ text_of whole =
    ap (λ (ys : List Tree). a ++ text_of (y.more_parts level (p ∷ []) (map laid ys))) (sym (item_at xs i x below is)) ∙ e in
    let last : Writes (Put (k.TextLast p) ∷ []) b d = subst (λ (text : List ℕ). Writes (Put (k.TextLast text) ∷ []) b d) first v in
    record { is = (both (y.argument level (laid x)) (Put (k.TextLast p) ∷ []) a b d (argument_written x level wanted a b shape w) last).is ∙ here }
part_last (p ∷ q ∷ qs) xs level i x part wanted a b d a0 whole some first below is shape w more v e =
    absurd (not_zero (length qs) (more ∙ ap (λ (left : List (List ℕ)). length left == 0) (rest_of p (q ∷ qs))))

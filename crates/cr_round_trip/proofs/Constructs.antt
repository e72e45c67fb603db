-- What each construct is written as fits, where its parts do.
use Rattle.std.proofs.Common.{◌≡◌, ℕ, suc, ◌^◌, Bool, true, false, not, ◌&&◌, cond, ◌==◌, List, [], ◌∷◌, ◌++◌, map, Option, Some, None, refl, sym, ap, subst, ◌∙◌}
use Rattle.std.specs.Prelude.{ℤ}
use Rattle.std.specs.Option.{option_map}
use Rattle.std.specs.Str.{IsUtf8}
use Rattle.std.proofs.lemmas.Bool.{and_parts, not-true}
use Rattle.cr_syntax.specs.declared.look.TokenLook.TheVariants as l
use Rattle.cr_syntax.specs.declared.token.TokenKind.TheVariants as k
use Rattle.cr_syntax.specs.Words.{is_digit, begins}
use Rattle.cr_syntax.specs.Lexes.{Before}
use Rattle.cr_grammar.specs.declared.operator.Binary.{Binary}
use Rattle.cr_grammar.specs.declared.operator.Unary.{Unary}
use Rattle.cr_grammar.specs.declared.operator.Unary.TheVariants as prefix
use Rattle.cr_grammar.specs.declared.operator.Assignment.{Assignment}
use Rattle.cr_grammar.specs.declared.tree.Tree.{Tree}
use Rattle.cr_grammar.specs.declared.tree.Tree.TheVariants as tree
use Rattle.cr_grammar.specs.Operators as o
use Rattle.cr_pieces.specs.Pieces.{Piece, Put, text_of}
use Rattle.cr_pieces.specs.Proper.{IsName, IsConstantName, IsVariableName, HasWidth}
use Rattle.cr_pieces.specs.Fits.{put_behind, stands, Fits}
use Rattle.cr_pretty.specs.Layout as y
use Rattle.cr_pretty.specs.Layout.{Laid, laid, word, space, bare, operand, argument, shape_of, operand_encloses, argument_encloses, given_encloses}
use Rattle.cr_pretty.proofs.Laid as of
use Rattle.cr_round_trip.proofs.Stops.{stop, opens}
use Rattle.cr_round_trip.proofs.Words as w
use Rattle.cr_round_trip.proofs.Known.{All, Any}
use Rattle.cr_round_trip.proofs.Fit.{Fit, Tail, Opens, pieces_assoc, pieces_nil, with_tail, no_tail, word_fit, opener_fit, opener_last, opener_tail, opener_end, word_tail, sign_tail, parenthesized_fit, enclosed_fit, open_text}
use Rattle.cr_round_trip.proofs.Listed.{Lays, end_tail, lines_tail, lines_last, body_tail, else_tail, arguments_fit, bare_fit, parenthesized_tail, in_parentheses_tail}
use Rattle.cr_round_trip.proofs.Names.{ident_fit, dot_ident, constant_fit, variable_fit, int32_fit, int64_fit, text_fit}

pub lays : (x : Tree) {la : Laid} → laid x ≡ la → ((level : ℕ) → Fit (bare level la)) → Lays x
lays x e fit level = subst (λ (v : Laid). Fit (bare level v)) (sym e) (fit level)

-- ---- a construct in its place

pub as_operand : (x : Tree) → Lays x → (level : ℕ) → Fit (operand level (laid x))
as_operand x held level = enclosed_fit (operand_encloses (shape_of (laid x))) (bare level (laid x)) (held level)

pub as_argument : (x : Tree) → Lays x → (level : ℕ) → Fit (argument level (laid x))
as_argument x held level = enclosed_fit (argument_encloses (shape_of (laid x))) (bare level (laid x)) (held level)

as_given : (x : Tree) → Lays x → (level : ℕ) → Fit (y.given level (laid x))
as_given x held level = enclosed_fit (given_encloses (shape_of (laid x))) (bare level (laid x)) (held level)

-- ---- literals and names

pub int32_lays : (at : ℕ) (n : ℤ) → HasWidth (2 ^ 31) n → Lays (tree.Int32 at n)
int32_lays at n has = lays (tree.Int32 at n) (of.of_int32 at n) (λ level. int32_fit n has)

pub int64_lays : (at : ℕ) (n : ℤ) → HasWidth (2 ^ 63) n → Lays (tree.Int64 at n)
int64_lays at n has = lays (tree.Int64 at n) (of.of_int64 at n) (λ level. int64_fit n has)

pub text_lays : (at : ℕ) (text : List ℕ) → IsUtf8 text → Lays (tree.Text at text)
text_lays at text utf8 = lays (tree.Text at text) (of.of_text at text) (λ level. text_fit text utf8)

pub nil_lays : (at : ℕ) → Lays (tree.Nil at)
nil_lays at = lays (tree.Nil at) (of.of_nil at) (λ level. word_fit l.Nil [] w.nil_word no_tail)

pub true_lays : (at : ℕ) → Lays (tree.True at)
true_lays at = lays (tree.True at) (of.of_true at) (λ level. word_fit l.True [] w.true_word no_tail)

pub false_lays : (at : ℕ) → Lays (tree.False at)
false_lays at = lays (tree.False at) (of.of_false at) (λ level. word_fit l.False [] w.false_word no_tail)

pub self_lays : (at : ℕ) → Lays (tree.KeywordSelf at)
self_lays at = lays (tree.KeywordSelf at) (of.of_keyword_self at) (λ level. word_fit l.KeywordSelf [] w.self_word no_tail)

pub variable_lays : (at : ℕ) (name : List ℕ) → IsVariableName name → Lays (tree.InstanceVariable at name)
variable_lays at name is = lays (tree.InstanceVariable at name) (of.of_instance_variable at name) (λ level. variable_fit name [] is no_tail)

-- ---- operations

pub binary_lays : (at : ℕ) (operator : Binary) (a b : Tree) → Lays a → Lays b → Lays (tree.Binary at operator a b)
binary_lays at operator a b left right = lays (tree.Binary at operator a b) (of.of_binary at operator a b) (λ level.
    with_tail (operand level (laid a)) (space ∷ word (y.binary_look operator) ∷ space ∷ operand level (laid b)) (as_operand a left level)
    (opener_end (y.binary_look operator) (operand level (laid b)) (w.binary_opener operator) (as_operand b right level)))

-- A sign stands where no `=` comes next, and a `-` where no digit does.
bang_stands : (before : Before) (s : Bool) (after : List ℕ) → opens after ≡ true → stands before s (k.Plain l.Bang) after ≡ true
bang_stands before s [] e = absurd cc
bang_stands before s (b ∷ bs) e = let no = not-true (61 == b) (and_parts (not (61 == b)) (not (124 == b)) e).0 in rw no refl

minus_stands : (before : Before) (s : Bool) (after : List ℕ) → opens after ≡ true → begins is_digit after ≡ false → stands before s (k.Plain l.Minus) after ≡ true
minus_stands before s [] e d = absurd cc
minus_stands before s (b ∷ bs) e d = let no = not-true (61 == b) (and_parts (not (61 == b)) (not (124 == b)) e).0 in rw (no, d) refl

no_digit_behind : (bytes more : List ℕ) → opens (bytes ++ []) ≡ true → begins is_digit bytes ≡ false → begins is_digit (bytes ++ more) ≡ false
no_digit_behind [] more e d = absurd cc
no_digit_behind (b ∷ bs) more e d = d

not_fit : (ps : List Piece) → Fit ps → Fit (word l.Bang ∷ ps)
not_fit ps fit = record {
  fits = λ before s after ready e. (tt, bang_stands before s (text_of ps ++ after) (fit.opening after), fit.fits (put_behind before (k.Plain l.Bang)) false after refl e);
  keeps = λ before. fit.keeps (put_behind before (k.Plain l.Bang));
  opening = λ after. refl;
}

minus_fit : (ps : List Piece) → Fit ps → ((after : List ℕ) → begins is_digit (text_of ps ++ after) ≡ false) → Fit (word l.Minus ∷ ps)
minus_fit ps fit no_digit = record {
  fits = λ before s after ready e. (tt, minus_stands before s (text_of ps ++ after) (fit.opening after) (no_digit after), fit.fits (put_behind before (k.Plain l.Minus)) false after refl e);
  keeps = λ before. fit.keeps (put_behind before (k.Plain l.Minus));
  opening = λ after. refl;
}

negated_fit : (ps : List Piece) → Fit ps → Fit (word l.Minus ∷ y.negated ps)
negated_fit ps fit = by_test (begins is_digit (text_of ps)) refl
  where
    by_test : (t : Bool) → begins is_digit (text_of ps) ≡ t → Fit (word l.Minus ∷ y.enclosed t ps)
    by_test true is = minus_fit (y.parenthesized ps) (parenthesized_fit ps fit) (λ after. refl)
    by_test false is = minus_fit ps fit (λ after. no_digit_behind (text_of ps) after (fit.opening []) is)

unary_fit : (operator : Unary) (ps : List Piece) → Fit ps → Fit (y.unary operator ps)
unary_fit prefix.Not ps fit = not_fit ps fit
unary_fit prefix.Negate ps fit = negated_fit ps fit

pub unary_lays : (at : ℕ) (operator : Unary) (x : Tree) → Lays x → Lays (tree.Unary at operator x)
unary_lays at operator x held = lays (tree.Unary at operator x) (of.of_unary at operator x) (λ level. unary_fit operator (operand level (laid x)) (as_operand x held level))

-- ---- compound forms

pub while_lays : (at : ℕ) (until : Bool) (condition : Tree) (list : List Tree) → Lays condition → All Lays list → Lays (tree.While at until condition list)
while_lays at until condition list c held = lays (tree.While at until condition list) (of.of_while at until condition list) (λ level.
    opener_fit (y.while_look until) (bare level (laid condition)) (y.body level (map laid list)) (w.while_opener until) (w.while_opens until) (c level) (body_tail list level held))

pub if_lays : (at : ℕ) (unless : Bool) (condition : Tree) (list others : List Tree) (otherwise : Option (List Tree)) → Lays condition → All Lays list → All Lays others → Any (All Lays) otherwise
    → Lays (tree.If at unless condition list others otherwise)
if_lays at unless condition list others otherwise c held branches last = lays (tree.If at unless condition list others otherwise) (of.of_if at unless condition list others otherwise) (λ level.
    let ends = y.end_line level in
    let elses = y.else_lines level (option_map (map laid) otherwise) ++ ends in
    let more = y.lines level (map laid others) ++ elses in
    opener_fit (y.if_look unless) (bare level (laid condition)) (y.lines (suc level) (map laid list) ++ more) (w.if_opener unless) (w.if_opens unless) (c level)
    (lines_tail list (suc level) more held (lines_tail others level elses branches (else_tail otherwise level ends last (end_tail level)))))

pub branch_lays : (at : ℕ) (condition : Tree) (list : List Tree) → Lays condition → All Lays list → Lays (tree.Branch at condition list)
branch_lays at condition list c held = lays (tree.Branch at condition list) (of.of_branch at condition list) (λ level.
    opener_fit l.Elsif (bare level (laid condition)) (y.lines (suc level) (map laid list)) w.elsif_opener (λ after. refl) (c level) (lines_last list (suc level) held))

pub case_lays : (at : ℕ) (value : Tree) (clauses : List Tree) → Lays value → All Lays clauses → Lays (tree.Case at value clauses)
case_lays at value clauses v held = lays (tree.Case at value clauses) (of.of_case at value clauses) (λ level.
    opener_fit l.Case (bare level (laid value)) (y.lines level (map laid clauses) ++ y.end_line level) w.case_opener (λ after. refl) (v level) (lines_tail clauses level (y.end_line level) held (end_tail level)))

pub select_lays : (at : ℕ) (clauses : List Tree) (otherwise : Option (List Tree)) → All Lays clauses → Any (All Lays) otherwise → Lays (tree.Select at clauses otherwise)
select_lays at clauses otherwise held last = lays (tree.Select at clauses otherwise) (of.of_select at clauses otherwise) (λ level.
    let ends = y.end_line level in
    let elses = y.else_lines level (option_map (map laid) otherwise) ++ ends in
    word_fit l.Select (y.lines level (map laid clauses) ++ elses) w.select_word (lines_tail clauses level elses held (else_tail otherwise level ends last (end_tail level))))

-- ---- assignments and jumps

pub assign_lays : (at : ℕ) (target : Tree) (operator : Assignment) (place : ℕ) (value : Tree) → Lays target → Lays value → Lays (tree.Assign at target operator place value)
assign_lays at target operator place value t v = lays (tree.Assign at target operator place value) (of.of_assign at target operator place value) (λ level.
    with_tail (bare level (laid target)) (space ∷ word (y.assignment_look operator) ∷ space ∷ bare level (laid value)) (t level)
    (opener_end (y.assignment_look operator) (bare level (laid value)) (w.assignment_opener operator) (v level)))

pub return_lays : (at : ℕ) (value : Option Tree) → Any Lays value → Lays (tree.Return at value)
return_lays at None held = lays (tree.Return at None) (of.of_return at None) (λ level. word_fit l.Return [] w.return_word no_tail)
return_lays at (Some x) held = lays (tree.Return at (Some x)) (of.of_return at (Some x)) (λ level. opener_last l.Return (y.given level (laid x)) w.return_opener (λ after. refl) (as_given x held level))

pub next_lays : (at : ℕ) (value : Option Tree) → Any Lays value → Lays (tree.Next at value)
next_lays at None held = lays (tree.Next at None) (of.of_next at None) (λ level. word_fit l.Next [] w.next_word no_tail)
next_lays at (Some x) held = lays (tree.Next at (Some x)) (of.of_next at (Some x)) (λ level. opener_last l.Next (y.given level (laid x)) w.next_opener (λ after. refl) (as_given x held level))

pub break_lays : (at : ℕ) → Lays (tree.Break at)
break_lays at = lays (tree.Break at) (of.of_break at) (λ level. word_fit l.Break [] w.break_word no_tail)

-- ---- calls

-- what stands behind the name of a call: its arguments and its block
abbrev pub BlockLays : Tree → Type 0
BlockLays b = (level : ℕ) → Tail (space ∷ bare level (laid b))

block_tail : (b : Option Tree) (level : ℕ) → Any BlockLays b → Tail (y.block level (option_map laid b))
block_tail None level held = no_tail
block_tail (Some b) level held = held level

pub call_tail : (xs : List Tree) (b : Option Tree) (level : ℕ) → All Lays xs → Any BlockLays b → Tail (y.arguments level (map laid xs) ++ y.block level (option_map laid b))
call_tail xs b level held block = in_parentheses_tail (map (argument level) (map laid xs)) (y.block level (option_map laid b)) (arguments_fit xs level held) (block_tail b level block)

receiver_fit : (x : Tree) (qs : List Piece) (level : ℕ) → Lays x → Tail (word l.Dot ∷ qs) → Fit ((operand level (laid x) ++ word l.Dot ∷ []) ++ qs)
receiver_fit x qs level held tail =
    subst Fit (sym (pieces_assoc (operand level (laid x)) (word l.Dot ∷ []) qs)) (with_tail (operand level (laid x)) (word l.Dot ∷ qs) (as_operand x held level) tail)

pub call_lays : (at : ℕ) (receiver : Option Tree) (name : List ℕ) (xs : List Tree) (b : Option Tree) → Any Lays receiver → IsName name → All Lays xs → Any BlockLays b → Lays (tree.Call at receiver name xs b)
call_lays at None name xs b r is held block = lays (tree.Call at None name xs b) (of.of_call at None name xs b) (λ level.
    ident_fit name (y.arguments level (map laid xs) ++ y.block level (option_map laid b)) is (call_tail xs b level held block))
call_lays at (Some x) name xs b r is held block = lays (tree.Call at (Some x) name xs b) (of.of_call at (Some x) name xs b) (λ level.
    receiver_fit x (Put (k.Ident name) ∷ (y.arguments level (map laid xs) ++ y.block level (option_map laid b))) level r
    (dot_ident name (y.arguments level (map laid xs) ++ y.block level (option_map laid b)) is (call_tail xs b level held block)))

pub is_nil_lays : (at : ℕ) (x : Tree) → Lays x → Lays (tree.IsNil at x)
is_nil_lays at x held = lays (tree.IsNil at x) (of.of_is_nil at x) (λ level.
    with_tail (operand level (laid x)) (word l.Dot ∷ word l.IsNil ∷ []) (as_operand x held level) (record {
      fits = λ before s after e. (tt, refl, (tt, w.is_nil_word.standing (put_behind before (k.Plain l.Dot)) false after e, tt));
      keeps = λ before. refl;
      stops = λ after e. refl;
    }))

pub yield_lays : (at : ℕ) (xs : List Tree) → All Lays xs → Lays (tree.Yield at xs)
yield_lays at xs held = lays (tree.Yield at xs) (of.of_yield at xs) (λ level. word_fit l.Yield (y.arguments level (map laid xs)) w.yield_word
    (subst Tail (pieces_nil (y.arguments level (map laid xs))) (in_parentheses_tail (map (argument level) (map laid xs)) [] (arguments_fit xs level held) no_tail)))

pub super_lays : (at : ℕ) (xs : List Tree) → All Lays xs → Lays (tree.Super at xs)
super_lays at xs held = lays (tree.Super at xs) (of.of_super at xs) (λ level.
    let ps = y.parenthesized (y.listed (map (argument level) (map laid xs))) in
    word_fit l.Super ps w.super_word (subst Tail (pieces_nil ps) (parenthesized_tail (map (argument level) (map laid xs)) [] (arguments_fit xs level held) no_tail)))

pub bare_super_lays : (at : ℕ) → Lays (tree.BareSuper at)
bare_super_lays at = lays (tree.BareSuper at) (of.of_bare_super at) (λ level. word_fit l.Super [] w.super_word no_tail)

spawn_tail : (list : List Tree) (level : ℕ) → All Lays list → Tail (space ∷ word l.Do ∷ y.body level (map laid list))
spawn_tail list level held = word_tail l.Do (y.body level (map laid list)) w.do_word (body_tail list level held)

pub spawn_lays : (at : ℕ) (context : Option Tree) (list : List Tree) → Any Lays context → All Lays list → Lays (tree.Spawn at context list)
spawn_lays at None list c held = lays (tree.Spawn at None list) (of.of_spawn at None list) (λ level. word_fit l.Spawn (space ∷ word l.Do ∷ y.body level (map laid list)) w.spawn_word (spawn_tail list level held))
spawn_lays at (Some x) list c held = lays (tree.Spawn at (Some x) list) (of.of_spawn at (Some x) list) (λ level.
    let tail = spawn_tail list level held in
    receiver_fit x (word l.Spawn ∷ space ∷ word l.Do ∷ y.body level (map laid list)) level c (record {
      fits = λ before s after e. (
        tt,
        refl,
        (
          tt,
          w.spawn_word.standing (put_behind before (k.Plain l.Dot)) false (text_of (space ∷ word l.Do ∷ y.body level (map laid list)) ++ after) (tail.stops after e),
          tail.fits (put_behind (put_behind before (k.Plain l.Dot)) (k.Plain l.Spawn)) false after e,
        ),
      );
      keeps = λ before. tail.keeps (put_behind (put_behind before (k.Plain l.Dot)) (k.Plain l.Spawn));
      stops = λ after e. refl;
    }))

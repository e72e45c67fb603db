-- What it means that a value or a statement is read from its layout, and how it is read as a part of others.
use Rattle.std.proofs.Common.{◌≡◌, ℕ, suc, Bool, true, false, not, List, [], ◌∷◌, ◌++◌, map, refl, sym, ap, subst, ◌∙◌, inl, inr}
use Rattle.std.specs.Prelude.{IsTrue}
use Rattle.cr_syntax.specs.declared.look.TokenLook.TheVariants as l
use Rattle.cr_syntax.specs.declared.token.Token.{Token}
use Rattle.cr_syntax.specs.declared.token.TokenKind.TheVariants as k
use Rattle.cr_syntax.specs.Look.{look_of}
use Rattle.cr_syntax.specs.Words.{is_digit, begins}
use Rattle.cr_grammar.specs.declared.tree.Tree.{Tree}
use Rattle.cr_grammar.specs.declared.within.Within.{Within}
use Rattle.cr_grammar.specs.declared.wanted.Wanted.{Wanted}
use Rattle.cr_grammar.specs.declared.wanted.Wanted.TheVariants.{Unary, Or, Simple, Stmt}
use Rattle.cr_grammar.specs.Forms.{Form, passing, parenthesized}
use Rattle.cr_grammar.specs.Operators as o
use Rattle.cr_grammar.specs.Expressions as ex
use Rattle.cr_grammar.specs.Grammar as g
use Rattle.cr_grammar.proofs.Derive as d
use Rattle.cr_pieces.specs.Pieces.{Piece, Blank, Put, text_of}
use Rattle.cr_pieces.specs.Fits.{spaced_behind, Bears}
use Rattle.cr_pieces.proofs.Joined.{spaced_append}
use Rattle.cr_pretty.specs.Layout as y
use Rattle.cr_pretty.specs.Layout.{Shape, Plain, Operation, Conditional, Leaving, Laid, Lay, laid, bare, shape_of, word, enclosed, operand, argument, given, negated}
use Rattle.cr_round_trip.proofs.Reading.{Scheme, Reads, Found, Like, via, up, then, gives, on_word, no_seps, tested}

-- what is spelled of a tree that is laid out in this shape
abbrev pub form_of : (Wanted → Form Tree) → Within → Shape → Form Tree
form_of S within Plain = ex.postfix S within true
form_of S within Conditional = ex.postfix S within true
form_of S within Operation = ex.or S within true
form_of S within Leaving = g.simple S within

-- whether the pieces begin with a token, and that with no `if` and no `unless`
abbrev pub begins_plainly : List Piece → Bool
begins_plainly [] = false
begins_plainly (Blank n ∷ ps) = false
begins_plainly (Put kind ∷ ps) = not (o.is_modifier (look_of kind))

-- a tree that is laid out so, and read from it
pub record Shown (within : Within) (x : Tree) (la : Laid) : Type 0 where
  pub reads : (level : ℕ) (s : Bool) → Reads (λ S. form_of S within (shape_of la)) (Like x) s (bare level la)
  pub closes : (level : ℕ) (s : Bool) → spaced_behind s (bare level la) ≡ false
  pub plain : y.conditional_encloses (shape_of la) ≡ false → (level : ℕ) → begins_plainly (bare level la) ≡ true

abbrev pub Value : Within → Tree → Type 0
Value within x = Shown within x (laid x)

pub value_by : (within : Within) (x : Tree) {la : Laid} → laid x ≡ la → Shown within x la → Value within x
value_by within x e h = subst (Shown within x) (sym e) h

-- ---- from one form to another

module _ (within : Within) where
  pub unary_of_postfix : (S : Wanted → Form Tree) (w : List Token) (x : Tree) → ex.postfix S within true w x → ex.unary S within true w x
  unary_of_postfix S w x r = inr (inr r)

  pub or_of_postfix : (S : Wanted → Form Tree) (w : List Token) (x : Tree) → ex.postfix S within true w x → ex.or S within true w x
  or_of_postfix S w x r = d.or_of_unary S within true w x (unary_of_postfix S w x r)

  simple_of_or : (S : Wanted → Form Tree) (w : List Token) (x : Tree) → ex.or S within true w x → g.simple S within w x
  simple_of_or S w x r = inr (inr (inr r))

  simple_of_form : (shape : Shape) (S : Wanted → Form Tree) (w : List Token) (x : Tree) → form_of S within shape w x → g.simple S within w x
  simple_of_form Plain S w x r = simple_of_or S w x (or_of_postfix S w x r)
  simple_of_form Conditional S w x r = simple_of_or S w x (or_of_postfix S w x r)
  simple_of_form Operation S w x r = simple_of_or S w x r
  simple_of_form Leaving S w x r = r

  pub as_primary : {F : Scheme Tree} {P : Tree → Type 0} {s : Bool} {ps : List Piece} → ((S : Wanted → Form Tree) (w : List Token) (x : Tree) → F S w x → ex.primary S within true w x) → Reads F P s ps → Reads (λ S. ex.postfix S within true) P s ps
  as_primary h r = via (λ S w x f. d.postfix_of S within true w x (h S w x f)) r

  -- a statement in parentheses
  pub parenthesized_reads : {P : Tree → Type 0} {s : Bool} (ps : List Piece) → Reads (λ S. S (Stmt within)) P false ps → Reads (λ S. ex.postfix S within true) P s (y.parenthesized ps)
  parenthesized_reads {P} {s} ps r = as_primary {F = λ S. parenthesized (S (Stmt within))} (λ S w x f. inr (inr (inr (inr (inr (inr (inr (inr (inr (inr (inr (inl f))))))))))))
      (on_word l.OpenParenthesis (ps ++ word l.CloseParenthesis ∷ []) (λ at. no_seps (then ps (word l.CloseParenthesis ∷ []) r (λ x h. no_seps (on_word l.CloseParenthesis [] (λ at'. gives x h))))))

  -- ---- a tree as a part of others

  module _ (x : Tree) where
    simple_reads : (la : Laid) → Shown within x la → (level : ℕ) (s : Bool) → Reads (λ S. g.simple S within) (Like x) s (bare level la)
    simple_reads la h level s = via (simple_of_form (shape_of la)) (h.reads level s)

    statement_reads : (la : Laid) → Shown within x la → (level : ℕ) (s : Bool) → Reads (λ S. S (Stmt within)) (Like x) s (bare level la)
    statement_reads la h level s = up (Stmt within) (via (λ S w z f. inl f) (simple_reads la h level s))

    operand_reads : (la : Laid) → Shown within x la → (level : ℕ) (s : Bool) → Reads (λ S. ex.postfix S within true) (Like x) s (enclosed (y.operand_encloses (shape_of la)) (bare level la))
    operand_reads (Lay Plain at) h level s = h.reads level s
    operand_reads (Lay Operation at) h level s = parenthesized_reads (at level) (statement_reads (Lay Operation at) h level false)
    operand_reads (Lay Conditional at) h level s = parenthesized_reads (at level) (statement_reads (Lay Conditional at) h level false)
    operand_reads (Lay Leaving at) h level s = parenthesized_reads (at level) (statement_reads (Lay Leaving at) h level false)

    argument_reads : (la : Laid) → Shown within x la → (level : ℕ) (s : Bool) → Reads (λ S. ex.or S within true) (Like x) s (enclosed (y.argument_encloses (shape_of la)) (bare level la))
    argument_reads (Lay Plain at) h level s = via or_of_postfix (h.reads level s)
    argument_reads (Lay Conditional at) h level s = via or_of_postfix (h.reads level s)
    argument_reads (Lay Operation at) h level s = h.reads level s
    argument_reads (Lay Leaving at) h level s = via or_of_postfix (parenthesized_reads (at level) (statement_reads (Lay Leaving at) h level false))

    pub as_operand : Value within x → (level : ℕ) (s : Bool) → Reads (λ S. ex.postfix S within true) (Like x) s (operand level (laid x))
    as_operand h level s = operand_reads (laid x) h level s

    pub as_or : Value within x → (level : ℕ) (s : Bool) → Reads (λ S. ex.or S within true) (Like x) s (argument level (laid x))
    as_or h level s = argument_reads (laid x) h level s

    pub as_argument : Value within x → (level : ℕ) (s : Bool) → Reads (λ S. S (Or within true)) (Like x) s (argument level (laid x))
    as_argument h level s = up (Or within true) (as_or h level s)

    pub as_simple : Value within x → (level : ℕ) (s : Bool) → Reads (λ S. S (Simple within)) (Like x) s (bare level (laid x))
    as_simple h level s = up (Simple within) (simple_reads (laid x) h level s)

    pub as_statement : Value within x → (level : ℕ) (s : Bool) → Reads (λ S. S (Stmt within)) (Like x) s (bare level (laid x))
    as_statement h level s = statement_reads (laid x) h level s

    pub as_unary : Value within x → (level : ℕ) (s : Bool) → Reads (λ S. S (Unary within true)) (Like x) s (operand level (laid x))
    as_unary h level s = up (Unary within true) (via unary_of_postfix (as_operand h level s))

    -- in parentheses, where a digit comes first
    pub as_negated : Value within x → (level : ℕ) (s : Bool) → Reads (λ S. S (Unary within true)) (Like x) s (negated (operand level (laid x)))
    as_negated h level s = up (Unary within true) (via unary_of_postfix (by_test (begins is_digit (text_of (operand level (laid x))))))
      where
        inside : Reads (λ S. S (Stmt within)) (Like x) false (operand level (laid x))
        inside = up (Stmt within) (via (λ S w z f. inl (simple_of_or S w z (or_of_postfix S w z f))) (as_operand h level false))

        by_test : (t : Bool) → Reads (λ S. ex.postfix S within true) (Like x) s (enclosed t (operand level (laid x)))
        by_test true = parenthesized_reads (operand level (laid x)) inside
        by_test false = as_operand h level s

    -- what `return` or `next` gives
    abbrev GivenForm : Scheme Tree
    GivenForm S = passing o.begins_no_modifier (ex.or S within true)

    pub plainly : (s : Bool) (ps : List Piece) (w : List Token) → begins_plainly ps ≡ true → Bears s ps w → IsTrue (o.begins_no_modifier w)
    plainly s [] w e b = absurd cc
    plainly s (Blank n ∷ ps) w e b = absurd cc
    plainly s (Put kind ∷ ps) w e (t, v, whole, is, spaced, b) = ap o.begins_no_modifier whole ∙ ap (λ (z : _). not (o.is_modifier (look_of z))) is ∙ e

    given_reads : (la : Laid) → Shown within x la → (level : ℕ) (s : Bool) → Reads GivenForm (Like x) s (enclosed (y.given_encloses (shape_of la)) (bare level la))
    given_reads (Lay Plain at) h level s = tested o.begins_no_modifier (λ w b. plainly s (at level) w (h.plain refl level) b) (argument_reads (Lay Plain at) h level s)
    given_reads (Lay Operation at) h level s = tested o.begins_no_modifier (λ w b. plainly s (at level) w (h.plain refl level) b) (argument_reads (Lay Operation at) h level s)
    given_reads (Lay Conditional at) h level s = tested o.begins_no_modifier (λ w b. plainly s (y.parenthesized (at level)) w refl b)
        (via or_of_postfix (parenthesized_reads (at level) (statement_reads (Lay Conditional at) h level false)))
    given_reads (Lay Leaving at) h level s = tested o.begins_no_modifier (λ w b. plainly s (y.parenthesized (at level)) w refl b) (argument_reads (Lay Leaving at) h level s)

    pub as_given : Value within x → (level : ℕ) (s : Bool) → Reads GivenForm (Like x) s (given level (laid x))
    as_given h level s = given_reads (laid x) h level s

-- ---- tight behind

pub closes_behind : (s : Bool) (ps qs : List Piece) → ((t : Bool) → spaced_behind t qs ≡ false) → spaced_behind s (ps ++ qs) ≡ false
closes_behind s ps qs h = spaced_append s ps qs ∙ h (spaced_behind s ps)

enclosed_closes : (wanted : Bool) (ps : List Piece) → ((s : Bool) → spaced_behind s ps ≡ false) → (s : Bool) → spaced_behind s (enclosed wanted ps) ≡ false
enclosed_closes true ps h s = closes_behind false ps (word l.CloseParenthesis ∷ []) (λ t. refl)
enclosed_closes false ps h s = h s

pub operand_closes : (within : Within) (x : Tree) → Value within x → (level : ℕ) (s : Bool) → spaced_behind s (operand level (laid x)) ≡ false
operand_closes within x h level s = enclosed_closes (y.operand_encloses (shape_of (laid x))) (bare level (laid x)) (h.closes level) s

pub argument_closes : (within : Within) (x : Tree) → Value within x → (level : ℕ) (s : Bool) → spaced_behind s (argument level (laid x)) ≡ false
argument_closes within x h level s = enclosed_closes (y.argument_encloses (shape_of (laid x))) (bare level (laid x)) (h.closes level) s

pub given_closes : (within : Within) (x : Tree) → Value within x → (level : ℕ) (s : Bool) → spaced_behind s (given level (laid x)) ≡ false
given_closes within x h level s = enclosed_closes (y.given_encloses (shape_of (laid x))) (bare level (laid x)) (h.closes level) s

pub negated_closes : (within : Within) (x : Tree) → Value within x → (level : ℕ) (s : Bool) → spaced_behind s (negated (operand level (laid x))) ≡ false
negated_closes within x h level s = enclosed_closes (y.negated_encloses (operand level (laid x))) (operand level (laid x)) (operand_closes within x h level) s

-- ---- how they begin

pub plain_front : (ps qs : List Piece) → begins_plainly ps ≡ true → begins_plainly (ps ++ qs) ≡ true
plain_front [] qs e = absurd cc
plain_front (Blank n ∷ ps) qs e = absurd cc
plain_front (Put kind ∷ ps) qs e = e

pub operand_plain : (within : Within) (x : Tree) → Value within x → (level : ℕ) → begins_plainly (operand level (laid x)) ≡ true
operand_plain within x h level = by_shape (laid x) h
  where
    by_shape : (la : Laid) → Shown within x la → begins_plainly (enclosed (y.operand_encloses (shape_of la)) (bare level la)) ≡ true
    by_shape (Lay Plain at) g = g.plain refl level
    by_shape (Lay Operation at) g = refl
    by_shape (Lay Conditional at) g = refl
    by_shape (Lay Leaving at) g = refl

-- Pieces that fit wherever a construct may stand, pieces that fit behind one, and how they are put together.
use Rattle.std.proofs.Common.{◌≡◌, ℕ, Bool, true, false, List, [], ◌∷◌, ◌++◌, Option, Some, None, refl, sym, ap, subst, ◌∙◌, append_assoc}
use Rattle.std.proofs.lemmas.List.{append-nil}
use Rattle.cr_syntax.specs.declared.open.Open.{Open}
use Rattle.cr_syntax.specs.declared.look.TokenLook.{TokenLook}
use Rattle.cr_syntax.specs.declared.look.TokenLook.TheVariants as l
use Rattle.cr_syntax.specs.declared.token.TokenKind.TheVariants as k
use Rattle.cr_syntax.specs.Lexes.{Before, ends_operand, nesting_behind}
use Rattle.cr_pieces.specs.Pieces.{Piece, Blank, Put, spelling, text_of}
use Rattle.cr_pieces.specs.Fits.{is_newline_look, spaced_behind, put_behind, pieces_behind, stands, Fits}
use Rattle.cr_pieces.proofs.Joined.{behind_append, fits_append, text_append}
use Rattle.cr_pretty.specs.Layout.{word, space, parenthesized, enclosed}
use Rattle.cr_round_trip.proofs.Stops.{stop, opens, Ready}

-- nothing more is open behind the pieces than before
abbrev pub Keeps : List Piece → Type 0
Keeps ps = (before : Before) → (pieces_behind before ps).nesting ≡ before.nesting

-- A construct: it fits where a `-` may stand in front of a number, and where no word and no number goes on behind it.
pub record Fit (ps : List Piece) : Type 0 where
  pub fits : (before : Before) (s : Bool) (after : List ℕ) → Ready before → stop after ≡ true → Fits before s ps after
  pub keeps : Keeps ps
  pub opening : (after : List ℕ) → opens (text_of ps ++ after) ≡ true

-- What stands behind a construct or a word: with it no word and no number goes on, and it fits whatever stands before.
pub record Tail (ps : List Piece) : Type 0 where
  pub fits : (before : Before) (s : Bool) (after : List ℕ) → stop after ≡ true → Fits before s ps after
  pub keeps : Keeps ps
  pub stops : (after : List ℕ) → stop after ≡ true → stop (text_of ps ++ after) ≡ true

-- ---- one after the other

pub keeps_append : (ps qs : List Piece) → Keeps ps → Keeps qs → Keeps (ps ++ qs)
keeps_append ps qs kp kq before = ap (λ (b : Before). b.nesting) (behind_append before ps qs) ∙ kq (pieces_behind before ps) ∙ kp before

pub pieces_assoc : (a b c : List Piece) → (a ++ b) ++ c ≡ a ++ (b ++ c)
pieces_assoc [] b c = refl
pieces_assoc (p ∷ a) b c = ap (λ (v : List Piece). p ∷ v) (pieces_assoc a b c)

pub pieces_nil : (a : List Piece) → a ++ [] ≡ a
pieces_nil [] = refl
pieces_nil (p ∷ a) = ap (λ (v : List Piece). p ∷ v) (pieces_nil a)

pub text_assoc : (ps qs : List Piece) (after : List ℕ) → text_of ps ++ (text_of qs ++ after) ≡ text_of (ps ++ qs) ++ after
text_assoc ps qs after = sym (append_assoc (text_of ps) (text_of qs) after) ∙ ap (λ (v : List ℕ). v ++ after) (sym (text_append ps qs))

-- What comes next fits wherever as much is open as before.
abbrev pub Next : Before → List Piece → List ℕ → Type 0
Next before qs after = (b : Before) (s : Bool) → b.nesting ≡ before.nesting → Fits b s qs after

pub next_from : (before b : Before) (qs : List Piece) (after : List ℕ) → b.nesting ≡ before.nesting → Next before qs after → Next b qs after
next_from before b qs after same next c s e = next c s (e ∙ same)

-- a construct, and then what comes next
pub then : (ps qs : List Piece) (before : Before) (s : Bool) (after : List ℕ) → Fit ps → Ready before → stop (text_of qs ++ after) ≡ true → Next before qs after → Fits before s (ps ++ qs) after
then ps qs before s after fit ready e next =
    fits_append before s ps qs after (fit.fits before s (text_of qs ++ after) ready e) (next (pieces_behind before ps) (spaced_behind s ps) (fit.keeps before))

pub tail_next : (qs : List Piece) (before : Before) (after : List ℕ) → Tail qs → stop after ≡ true → Next before qs after
tail_next qs before after tail e b s same = tail.fits b s after e

pub no_tail : Tail []
no_tail = record { fits = λ before s after e. tt; keeps = λ before. refl; stops = λ after e. e }

-- a construct with what stands behind it
pub with_tail : (ps qs : List Piece) → Fit ps → Tail qs → Fit (ps ++ qs)
with_tail ps qs fit tail = record {
  fits = λ before s after ready e. then ps qs before s after fit ready (tail.stops after e) (tail_next qs before after tail e);
  keeps = keeps_append ps qs fit.keeps tail.keeps;
  opening = λ after. subst (λ (v : List ℕ). opens v ≡ true) (text_assoc ps qs after) (fit.opening (text_of qs ++ after));
}

-- ---- words

-- a keyword: it stands where no word goes on
pub record IsWord (look : TokenLook) : Type 0 where
  pub standing : (before : Before) (s : Bool) (after : List ℕ) → stop after ≡ true → stands before s (k.Plain look) after ≡ true
  pub keeping : (nesting : List Open) → nesting_behind nesting 0 look ≡ nesting
  pub opening : (after : List ℕ) → opens (spelling look ++ after) ≡ true

-- a keyword or an operator that stands in front of a space, and behind which a number may have its sign
pub record IsOpener (look : TokenLook) : Type 0 where
  pub standing : (before : Before) (s : Bool) (after : List ℕ) → stands before s (k.Plain look) (32 ∷ after) ≡ true
  pub keeping : (nesting : List Open) → nesting_behind nesting 0 look ≡ nesting
  pub ready : ends_operand look ≡ false

-- such a keyword begins a construct
abbrev pub Opens : TokenLook → Type 0
Opens look = (after : List ℕ) → opens (spelling look ++ after) ≡ true

-- a bracket, with which no operator goes on
pub record IsSign (look : TokenLook) : Type 0 where
  pub standing : (before : Before) (s : Bool) (after : List ℕ) → stands before s (k.Plain look) after ≡ true
  pub keeping : (nesting : List Open) → nesting_behind nesting 0 look ≡ nesting

keeps_word : (look : TokenLook) (qs : List Piece) → ((nesting : List Open) → nesting_behind nesting 0 look ≡ nesting) → Keeps qs → Keeps (word look ∷ qs)
keeps_word look qs keeping keeps before = keeps (put_behind before (k.Plain look)) ∙ keeping before.nesting

pub open_text : (look : TokenLook) (qs : List Piece) (after : List ℕ) → Opens look → opens (text_of (word look ∷ qs) ++ after) ≡ true
open_text look qs after h = subst (λ (v : List ℕ). opens v ≡ true) (sym (append_assoc (spelling look) (text_of qs) after)) (h (text_of qs ++ after))

-- a keyword with what stands behind it
pub word_fit : (look : TokenLook) (qs : List Piece) → IsWord look → Tail qs → Fit (word look ∷ qs)
word_fit look qs is tail = record {
  fits = λ before s after ready e. (tt, is.standing before s (text_of qs ++ after) (tail.stops after e), tail.fits (put_behind before (k.Plain look)) (is_newline_look look) after e);
  keeps = keeps_word look qs is.keeping tail.keeps;
  opening = λ after. open_text look qs after is.opening;
}

-- a keyword, a space and a construct, with what stands behind it
pub opener_fit : (look : TokenLook) (ps qs : List Piece) → IsOpener look → Opens look → Fit ps → Tail qs → Fit (word look ∷ space ∷ (ps ++ qs))
opener_fit look ps qs is opens fit tail =
    let whole : Fit (ps ++ qs) = with_tail ps qs fit tail in record {
      fits = λ before s after ready e. (tt, is.standing before s (text_of (ps ++ qs) ++ after), whole.fits (put_behind before (k.Plain look)) true after is.ready e);
      keeps = keeps_word look (space ∷ (ps ++ qs)) is.keeping whole.keeps;
      opening = λ after. open_text look (space ∷ (ps ++ qs)) after opens;
    }

pub opener_last : (look : TokenLook) (ps : List Piece) → IsOpener look → Opens look → Fit ps → Fit (word look ∷ space ∷ ps)
opener_last look ps is opens fit = subst (λ (v : List Piece). Fit (word look ∷ space ∷ v)) (pieces_nil ps) (opener_fit look ps [] is opens fit no_tail)

-- a space, an operator or a keyword, a space and a construct, with what stands behind it
pub opener_tail : (look : TokenLook) (ps qs : List Piece) → IsOpener look → Fit ps → Tail qs → Tail (space ∷ word look ∷ space ∷ (ps ++ qs))
opener_tail look ps qs is fit tail =
    let whole : Fit (ps ++ qs) = with_tail ps qs fit tail in record {
      fits = λ before s after e. (tt, is.standing before true (text_of (ps ++ qs) ++ after), whole.fits (put_behind before (k.Plain look)) true after is.ready e);
      keeps = keeps_word look (space ∷ (ps ++ qs)) is.keeping whole.keeps;
      stops = λ after e. refl;
    }

pub opener_end : (look : TokenLook) (ps : List Piece) → IsOpener look → Fit ps → Tail (space ∷ word look ∷ space ∷ ps)
opener_end look ps is fit = subst (λ (v : List Piece). Tail (space ∷ word look ∷ space ∷ v)) (pieces_nil ps) (opener_tail look ps [] is fit no_tail)

-- a space and a keyword, with what stands behind it
pub word_tail : (look : TokenLook) (qs : List Piece) → IsWord look → Tail qs → Tail (space ∷ word look ∷ qs)
word_tail look qs is tail = record {
  fits = λ before s after e. (tt, is.standing before true (text_of qs ++ after) (tail.stops after e), tail.fits (put_behind before (k.Plain look)) (is_newline_look look) after e);
  keeps = keeps_word look qs is.keeping tail.keeps;
  stops = λ after e. refl;
}

-- a bracket behind a construct, with what stands behind it
pub sign_tail : (look : TokenLook) (qs : List Piece) → IsSign look → ((after : List ℕ) → stop (spelling look ++ after) ≡ true) → Tail qs → Tail (word look ∷ qs)
sign_tail look qs is stops tail = record {
  fits = λ before s after e. (tt, is.standing before s (text_of qs ++ after), tail.fits (put_behind before (k.Plain look)) (is_newline_look look) after e);
  keeps = keeps_word look qs is.keeping tail.keeps;
  stops = λ after e. subst (λ (v : List ℕ). stop v ≡ true) (sym (append_assoc (spelling look) (text_of qs) after)) (stops (text_of qs ++ after));
}

-- ---- parentheses

pub parenthesized_fit : (ps : List Piece) → Fit ps → Fit (parenthesized ps)
parenthesized_fit ps fit = record {
  fits = λ before s after ready e. (tt, refl, then ps (word l.CloseParenthesis ∷ []) (put_behind before (k.Plain l.OpenParenthesis)) false after fit refl refl (λ b t same. (tt, refl, tt)));
  keeps = λ before. keeps_append ps (word l.CloseParenthesis ∷ []) fit.keeps (λ b. refl) (put_behind before (k.Plain l.OpenParenthesis));
  opening = λ after. refl;
}

pub enclosed_fit : (wanted : Bool) (ps : List Piece) → Fit ps → Fit (enclosed wanted ps)
enclosed_fit true ps fit = parenthesized_fit ps fit
enclosed_fit false ps fit = fit

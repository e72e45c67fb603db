-- What holds of everything that a form spells by proper tokens, by how the form is put together.
use Rattle.std.proofs.Common.{◌≡◌, ℕ, zero, suc, Bool, List, [], ◌∷◌, ◌++◌, Option, Some, None, refl, sym, ap, subst, ◌∙◌, inl, inr}
use Rattle.std.specs.Prelude.{IsTrue}
use Rattle.cr_syntax.specs.declared.look.TokenLook.{TokenLook}
use Rattle.cr_syntax.specs.declared.look.TokenLook.TheVariants as l
use Rattle.cr_syntax.specs.declared.token.Token.{Token}
use Rattle.cr_syntax.specs.declared.token.TokenKind.{TokenKind}
use Rattle.cr_syntax.specs.declared.token.TokenKind.TheVariants as k
use Rattle.cr_grammar.specs.declared.word.Word.{Word}
use Rattle.cr_grammar.specs.Forms as f
use Rattle.cr_grammar.specs.Forms.{Form, ◌>>=◌, ◌<|>◌, nothing, maybe, many, some, repeated, repeated_of, where_true, passing, tight, word, holding, exactly, with_last, seps, comma, listed, parenthesized, stmts, or_none, is_tight, from_first, place_of}
use Rattle.cr_pieces.specs.Proper.{IsProper, AllProper}
use Rattle.cr_round_trip.proofs.Known.{All, Any}

pub record Claims {A : Type 0} (R : Form A) (P : A → Type 0) : Type 0 where
  pub holds : (w : List Token) (x : A) → R w x → AllProper w → P x

abbrev pub Whatever : {A : Type 0} → A → Type 0
Whatever x = Unit {0}

-- ---- tokens of a text

split : (a b : List Token) → AllProper (a ++ b) → AllProper a × AllProper b
split [] b p = (tt, p)
split (t ∷ a) b p = let q = split a b p.1 in ((p.0, q.0), q.1)

parts : (w a b : List Token) → w ≡ a ++ b → AllProper w → AllProper a × AllProper b
parts w a b e p = split a b (subst AllProper e p)

pub one_proper : (w : List Token) (t : Token) (kind : TokenKind) → w ≡ t ∷ [] → t.kind ≡ kind → AllProper w → IsProper kind
one_proper w t kind e is p = subst IsProper is (subst AllProper e p).0

-- ---- how forms are put together

pub after : {A B : Type 0} {R : Form A} {S : A → Form B} {P : A → Type 0} {Q : B → Type 0} → Claims R P → ((x : A) → P x → Claims (S x) Q) → Claims (R >>= S) Q
after r s = record { holds = λ w z t p. let both = parts w t.0 t.1 t.3 p in (s t.2 (r.holds t.0 t.2 t.4 both.0)).holds t.1 z t.5 both.1 }

pub either : {A : Type 0} {R S : Form A} {P : A → Type 0} → Claims R P → Claims S P → Claims (R <|> S) P
either {A} {R} {S} {P} r s = record { holds = λ w x t p. elim t as (λ v. P x) [ inl u ↦ r.holds w x u p | inr v ↦ s.holds w x v p ] }

pub gives : {A : Type 0} {x : A} {P : A → Type 0} → P x → Claims (nothing x) P
gives {A} {x} {P} h = record { holds = λ w y t p. subst P (sym t.1) h }

pub weaker : {A : Type 0} {R : Form A} {P Q : A → Type 0} → ((x : A) → P x → Q x) → Claims R P → Claims R Q
weaker h r = record { holds = λ w x t p. h x (r.holds w x t p) }

pub placed : {A : Type 0} {R : ℕ → Form A} {P : A → Type 0} → ((at : ℕ) → Claims (R at) P) → Claims (from_first R) P
placed r = record { holds = λ w x t p. (r (place_of w)).holds w x t p }

pub perhaps : {A : Type 0} {R : Form A} {P : A → Type 0} → Claims R P → Claims (maybe R) (Any P)
perhaps {A} {R} {P} r = record { holds = by_any }
  where
    by_any : (w : List Token) (x : Option A) → maybe R w x → AllProper w → Any P x
    by_any w None t p = tt
    by_any w (Some x) t p = r.holds w x t p

pub any_number : {A : Type 0} {R : Form A} {P : A → Type 0} → Claims R P → Claims (many R) (All P)
any_number {A} {R} {P} r = record { holds = each }
  where
    each : (w : List Token) (xs : List A) → many R w xs → AllProper w → All P xs
    each w [] t p = tt
    each w (x ∷ xs) t p = let both = parts w t.0 t.1 t.2 p in (r.holds t.0 x t.3 both.0, each t.1 xs t.4 both.1)

pub under : {A : Type 0} {b : Bool} {R : Form A} {P : A → Type 0} → (IsTrue b → Claims R P) → Claims (where_true b R) P
under r = record { holds = λ w x t p. (r t.0).holds w x t.1 p }

pub tested : {A : Type 0} {test : List Token → Bool} {R : Form A} {P : A → Type 0} → Claims R P → Claims (passing test R) P
tested r = record { holds = λ w x t p. r.holds w x t.1 p }

pub closely : {A : Type 0} {R : Form A} {P : A → Type 0} → Claims R P → Claims (tight R) P
closely r = record { holds = λ w x t p. r.holds w x t.1 p }

pub again : {A : Type 0} {R : A → Form A} {x : A} {P : A → Type 0} → ((y : A) → P y → Claims (R y) P) → P x → Claims (repeated R x) P
again {A} {R} {x} {P} r h = record { holds = λ w z t p. times t.0 x w z t.1 h p }
  where
    times : (n : ℕ) (y : A) (w : List Token) (z : A) → repeated_of n R y w z → P y → AllProper w → P z
    times zero y w z t h p = subst P (sym t.1) h
    times (suc n) y w z t h p = let both = parts w t.0 t.1 t.3 p in times n t.2 t.1 z t.5 ((r y h).holds t.0 t.2 t.4 both.0) both.1

pub with_end : {A : Type 0} {R : Form A} {P : A → Type 0} → Claims R P → Claims (with_last R) (λ x. P x.0)
with_end r = record { holds = λ w x t p. r.holds w x.0 t.0 p }

-- ---- tokens

pub a_word : {look : TokenLook} → Claims (word look) Whatever
a_word = record { holds = λ w x t p. tt }

pub this_word : {kind : TokenKind} → Claims (exactly kind) Whatever
this_word = record { holds = λ w x t p. tt }

pub a_name : (kind : List ℕ → TokenKind) → Claims (holding kind) (λ x. IsProper (kind x.text))
a_name kind = record { holds = λ w x t p. one_proper w t.0 (kind x.text) t.1 t.2.0 p }

-- ---- lists

pub separators : Claims seps Whatever
separators = record { holds = λ w x t p. tt }

pub a_comma : Claims comma Whatever
a_comma = record { holds = λ w x t p. tt }

-- a list with a first one
abbrev pub AllFrom : {A : Type 0} → (A → Type 0) → List A → Type 0
AllFrom P [] = ⊥
AllFrom P (x ∷ xs) = P x × All P xs

pub a_list : {A : Type 0} {R : Form A} {P : A → Type 0} → Claims R P → Claims (listed R) (AllFrom P)
a_list r = after r (λ x h. after (any_number (after a_comma (λ u v. r))) (λ xs hs. gives (h, hs)))

pub from_all : {A : Type 0} (P : A → Type 0) (xs : List A) → AllFrom P xs → All P xs
from_all P [] h = absurd h
from_all P (x ∷ xs) h = h

pub at_least_one : {A : Type 0} {R : Form A} {P : A → Type 0} → Claims R P → Claims (some R) (AllFrom P)
at_least_one r = after r (λ x h. after (any_number r) (λ xs hs. gives (h, hs)))

pub some_list : {A : Type 0} {R : Form (List A)} {P : A → Type 0} → Claims R (AllFrom P) → Claims (or_none R) (All P)
some_list {A} {R} {P} r = record { holds = by_any }
  where
    by_any : (w : List Token) (xs : List A) → or_none R w xs → AllProper w → All P xs
    by_any w xs (inl t) p = from_all P xs (r.holds w xs t p)
    by_any w xs (inr t) p = subst (All P) (sym t.1) tt

pub within_parentheses : {A : Type 0} {R : Form A} {P : A → Type 0} → Claims R P → Claims (parenthesized R) P
within_parentheses r = after a_word (λ at o. after separators (λ u v. after r (λ x h. after separators (λ u' v'. after a_word (λ at' o'. gives h)))))

pub statements : {A : Type 0} {R : Form A} {P : A → Type 0} → Claims R P → Claims (stmts R) (All P)
statements r =
    after separators (λ u v. after (some_list (after r (λ x h. after (any_number (after a_word (λ at o. after separators (λ u' v'. r)))) (λ xs hs. gives (h, hs)))))
    (λ xs hs. after separators (λ u'' v''. gives hs)))

pub anything : {A : Type 0} {R : Form A} → Claims R Whatever
anything = record { holds = λ w x t p. tt }

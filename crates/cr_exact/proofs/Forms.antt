-- Forms alone: what holds of how they are put together, and what some list spells.
use Rattle.std.proofs.Common.{◌≡◌, ℕ, zero, suc, Bool, true, List, [], ◌∷◌, ◌++◌, None, inr, refl, sym, ap, subst, ◌∙◌, append_assoc, Option, Some, inl, false}
use Rattle.std.proofs.lemmas.Bool.{both_ways}
use Rattle.std.proofs.lemmas.List.{append-nil}
use Rattle.cr_syntax.specs.declared.look.TokenLook.{TokenLook}
use Rattle.cr_syntax.specs.declared.look.TokenLook.TheVariants as l
use Rattle.cr_syntax.specs.declared.token.Token.{Token}
use Rattle.cr_syntax.specs.declared.token.TokenKind.{TokenKind}
use Rattle.cr_syntax.specs.declared.token.TokenKind.TheVariants as k
use Rattle.cr_syntax.specs.Look.{look_of}
use Rattle.cr_grammar.specs.Forms.{Form, nothing, ◌>>=◌, ◌>>◌, repeated_of, maybe, many, or_none, word, holding, last_look, seps, comma, listed, parenthesized, stmts, where_true, ◌<|>◌}
use Rattle.cr_grammar.specs.Laws.{first_is}
use Rattle.cr_exact.proofs.Tokens.{a_token}

-- ---- how lists are split

pub joined : (w a b c d : List Token) → w ≡ a ++ b → b ≡ c ++ d → w ≡ (a ++ c) ++ d
joined w a b c d e e' = e ∙ ap (λ (t : List Token). a ++ t) e' ∙ sym (append_assoc a c d)

pub split : (a b c d : List Token) → a ≡ c ++ d → a ++ b ≡ c ++ (d ++ b)
split a b c d e = ap (λ (t : List Token). t ++ b) e ∙ append_assoc c d b

-- ---- forms one behind the other

-- all that R spells S spells
abbrev pub Included : {A : Type 0} → Form A → Form A → Type 0
Included R S = (w : List Token) (x : _) → R w x → S w x

pub bind_out : {A B C : Type 0} (R : Form A) (S : A → Form B) (Q : B → Form C) → Included (R >>= S >>= Q) (R >>= λ x. S x >>= Q)
bind_out R S Q w z c =
    let d = c.4 in
    (d.0, d.1 ++ c.1, d.2, c.3 ∙ ap (λ (t : List Token). t ++ c.1) d.3 ∙ append_assoc d.0 d.1 c.1, d.4, (d.1, c.1, c.2, refl, d.5, c.5))

pub bind_in : {A B C : Type 0} (R : Form A) (S : A → Form B) (Q : B → Form C) → Included (R >>= λ x. S x >>= Q) (R >>= S >>= Q)
bind_in R S Q w z c =
    let d = c.5 in
    (c.0 ++ d.0, d.1, d.2, c.3 ∙ ap (λ (t : List Token). c.0 ++ t) d.3 ∙ sym (append_assoc c.0 d.0 d.1), (c.0, d.0, c.2, refl, c.4, d.4), d.5)

pub included_bind : {A B : Type 0} (R R' : Form A) (S : A → Form B) → Included R R' → Included (R >>= S) (R' >>= S)
included_bind R R' S h w y c = (c.0, c.1, c.2, c.3, h c.0 c.2 c.4, c.5)

-- R and what is made of it
pub made_out : {A B : Type 0} (R : Form A) (make : A → B) (w : List Token) (y : B) → (R >>= λ x. nothing (make x)) w y → (x : A) × R w x × (y ≡ make x)
made_out R make w y c = (c.2, subst (λ (t : List Token). R t c.2) (sym (c.3 ∙ ap (λ (t : List Token). c.0 ++ t) c.5.0 ∙ append-nil c.0)) c.4, c.5.1)

pub made_in : {A B : Type 0} (R : Form A) (make : A → B) (w : List Token) (x : A) → R w x → (R >>= λ x. nothing (make x)) w (make x)
made_in R make w x r = (w, [], x, sym (append-nil w), r, (refl, refl))

pub same_out : {A : Type 0} (R : Form A) (w : List Token) (x : A) → (R >>= λ y. nothing y) w x → R w x
same_out R w x c = let r = made_out R (λ y. y) w x c in subst (R w) (sym r.2) r.1

pub unit_out : {A B : Type 0} (K : A → Form B) (x : A) (w : List Token) (y : B) → (nothing x >>= K) w y → K x w y
unit_out K x w y (a, rest, z, e, (none, is), d) =
    subst (λ (t : List Token). K x t y) (sym (e ∙ ap (λ (t : List Token). t ++ rest) none)) (subst (λ v. K v rest y) is d)

pub all_read : (w a b : List Token) → w ≡ a ++ b → b ≡ [] → w ≡ a
all_read w a b e none = e ∙ ap (λ (t : List Token). a ++ t) none ∙ append-nil a

-- ---- no empty list

-- Some token is read.
abbrev pub Real : {A : Type 0} → Form A → Type 0
Real R = (w : List Token) (x : _) → R w x → w ≡ [] → ⊥

pub one_real : (w : List Token) (t : Token) → w ≡ t ∷ [] → w ≡ [] → ⊥
one_real w t e none = let both : t ∷ [] ≡ [] = sym e ∙ none in cc

pub last_behind : (a b : List Token) → (b ≡ [] → ⊥) → last_look (a ++ b) ≡ last_look b
last_behind [] b some = refl
last_behind (t ∷ []) [] some = absurd (some refl)
last_behind (t ∷ []) (u ∷ b) some = refl
last_behind (t ∷ u ∷ a) b some = last_behind (u ∷ a) b some

pub begins_some : (test : TokenLook → Bool) (w : List Token) → first_is test w ≡ true → w ≡ [] → ⊥
begins_some test [] is e = cc
begins_some test (t ∷ w) is e = cc

pub append_none : (a b : List Token) → a ++ b ≡ [] → (a ≡ []) × (b ≡ [])
append_none [] b e = (refl, e)
append_none (t ∷ a) b e = absurd cc

-- ---- turns, seen from the last

-- the turns but the last, and the last
pub last_turn : {A : Type 0} (R : A → Form A) (n : ℕ) (x : A) (w : List Token) (y : A) → repeated_of (suc n) R x w y
    → (u : List Token) × (v : List Token) × (z : A) × (w ≡ u ++ v) × repeated_of n R x u z × R z v y
last_turn R zero x w y c =
    let same : w ≡ c.0 = c.3 ∙ ap (λ (t : List Token). c.0 ++ t) c.5.0 ∙ append-nil c.0 in
    ([], w, x, refl, (refl, refl), subst (λ t. R x t y) (sym same) (subst (λ v. R x c.0 v) (sym c.5.1) c.4))
last_turn R (suc n) x w y c =
    let r = last_turn R n c.2 c.1 y c.5 in
    (c.0 ++ r.0, r.1, r.2, c.3 ∙ ap (λ (t : List Token). c.0 ++ t) r.3 ∙ sym (append_assoc c.0 r.0 r.1), (c.0, r.0, c.2, refl, c.4, r.4), r.5)

-- one turn more
pub turn_more : {A : Type 0} (R : A → Form A) (n : ℕ) (x z : A) (u v : List Token) (y : A) → repeated_of n R x u z → R z v y → repeated_of (suc n) R x (u ++ v) y
turn_more R zero x z u v y c r =
    (v, [], y, ap (λ (t : List Token). t ++ v) c.0 ∙ sym (append-nil v), subst (λ t. R t v y) c.1 r, (refl, refl))
turn_more R (suc n) x z u v y c r =
    (c.0, c.1 ++ v, c.2, ap (λ (t : List Token). t ++ v) c.3 ∙ append_assoc c.0 c.1 v, c.4, turn_more R n c.2 z c.1 v y c.5 r)

-- ---- separators

pub no_seps : seps [] tt
no_seps = ([], [], [], refl, refl, (refl, refl))

many_append : {A : Type 0} (R : Form A) (a b : List Token) (xs ys : List A) → many R a xs → many R b ys → many R (a ++ b) (xs ++ ys)
many_append R a b [] ys c d = subst (λ (t : List Token). many R (t ++ b) ys) (sym c) d
many_append R a b (x ∷ xs) ys c d =
    (c.0, c.1 ++ b, ap (λ (t : List Token). t ++ b) c.2 ∙ append_assoc c.0 c.1 b, c.3, many_append R c.1 b xs ys c.4 d)

pub seps_of : (w : List Token) (xs : List ℕ) → many (word l.Newline) w xs → seps w tt
seps_of w xs c = (w, [], xs, sym (append-nil w), c, (refl, refl))

pub seps_append : (a b : List Token) (u v : Unit {0}) → seps a u → seps b v → seps (a ++ b) tt
seps_append a b u v c d =
    let first = made_out (many (word l.Newline)) (λ xs. tt) a u c in
    let second = made_out (many (word l.Newline)) (λ xs. tt) b v d in
    seps_of (a ++ b) (first.0 ++ second.0) (many_append (word l.Newline) a b first.0 second.0 first.1 second.1)

-- ---- where a condition holds

module _ {A : Type 0} (P Q : Form A) where
  -- where the second is allowed, and where it is not
  pub allowed : (w : List Token) (x : A) → (P <|> Q) w x → (P <|> where_true true Q) w x
  allowed w x (inl c) = inl c
  allowed w x (inr c) = inr (refl, c)

  pub without_leave : (w : List Token) (x : A) → (P <|> where_true true Q) w x → (P <|> Q) w x
  without_leave w x (inl c) = inl c
  without_leave w x (inr c) = inr c.1

  pub first_only : (w : List Token) (x : A) → (P <|> where_true false Q) w x → P w x
  first_only w x (inl c) = c
  first_only w x (inr c) = absurd (both_ways _ refl c.0)

  pub maybe_first : (w : List Token) (o : Option A) → maybe (P <|> where_true false Q) w o → maybe P w o
  maybe_first w None c = c
  maybe_first w (Some x) c = first_only w x c

  pub first_maybe : (w : List Token) (o : Option A) → maybe P w o → maybe (P <|> where_true false Q) w o
  first_maybe w None c = c
  first_maybe w (Some x) c = inl c

-- ---- parentheses round another form

pub parenthesized_map : {A B : Type 0} (R : Form A) (Q : Form B) (w : List Token) (x : A) (y : B)
    → ((v : List Token) (z : A) → x ≡ z → R v z → Q v y) → parenthesized R w x → parenthesized Q w y
parenthesized_map R Q w x y f (a, b, at, e, r, (a', b', u, e', s, (a'', b'', z, e'', m, (a3, b3, u3, e3, s3, (a4, b4, at4, e4, r4, (none, same)))))) =
    (a, b, at, e, r, (a', b', u, e', s, (a'', b'', y, e'', f a'' z same m, (a3, b3, u3, e3, s3, (a4, b4, at4, e4, r4, (none, refl))))))

-- a list of one is that one
same_head : {A : Type 0} (x y : A) (xs ys : List A) → x ∷ xs ≡ y ∷ ys → (x ≡ y) × (xs ≡ ys)
same_head x y xs ys e = (cc, cc)

pub listed_one : {A : Type 0} (R : Form A) (w : List Token) (x : A) → listed R w (x ∷ []) → R w x
listed_one R w x (a, b, y, e, r, (a', b', ys, e', m, (none, same))) =
    let is = same_head x y [] ys same in
    let empty : a' ≡ [] = subst (λ v. many (comma >> R) a' v) (sym is.1) m in
    subst (λ t. R t x) (sym (all_read w a b e (all_read b a' b' e' none ∙ empty))) (subst (λ v. R a v) (sym is.0) r)

pub one_listed : {A : Type 0} (R : Form A) (w : List Token) (x : A) → R w x → listed R w (x ∷ [])
one_listed R w x r = (w, [], x, sym (append-nil w), r, ([], [], [], refl, refl, (refl, refl)))

-- ---- what is spelled

abbrev pub Spelled : {A : Type 0} → Form A → Type 0
Spelled {A} R = (w : List Token) × (x : A) × R w x

abbrev pub spelled_bind : {A B : Type 0} {R : Form A} {S : A → Form B} → Spelled R → ((x : A) → Spelled (S x)) → Spelled (R >>= S)
spelled_bind r s = let t = s r.1 in (r.0 ++ t.0, t.1, (r.0, t.0, r.1, refl, r.2, t.2))

abbrev pub spelled_nothing : {A : Type 0} (x : A) → Spelled (nothing x)
spelled_nothing x = ([], x, (refl, refl))

abbrev pub spelled_word : (kind : TokenKind) → Spelled (word (look_of kind))
spelled_word kind = (a_token kind ∷ [], 0, (a_token kind, refl, (refl, refl)))

abbrev pub spelled_held : (kind : List ℕ → TokenKind) → Spelled (holding kind)
spelled_held kind = (a_token (kind []) ∷ [], record { at = 0; text = [] }, (a_token (kind []), refl, (refl, refl)))

abbrev pub spelled_maybe : {A : Type 0} (R : Form A) → Spelled (maybe R)
spelled_maybe R = ([], None, refl)

abbrev pub spelled_many : {A : Type 0} (R : Form A) → Spelled (many R)
spelled_many R = ([], [], refl)

abbrev pub spelled_none : {A : Type 0} (R : Form (List A)) → Spelled (or_none R)
spelled_none R = ([], [], inr (refl, refl))

abbrev pub spelled_seps : Spelled seps
spelled_seps = spelled_bind (spelled_many (word l.Newline)) (λ _. spelled_nothing tt)

abbrev pub spelled_listed : {A : Type 0} {R : Form A} → Spelled R → Spelled (listed R)
spelled_listed r = spelled_bind r (λ x. spelled_bind (spelled_many _) (λ xs. spelled_nothing (x ∷ xs)))

abbrev pub spelled_parenthesized : {A : Type 0} {R : Form A} → Spelled R → Spelled (parenthesized R)
spelled_parenthesized r =
    spelled_bind (spelled_word (k.Plain l.OpenParenthesis)) (λ _. spelled_bind spelled_seps (λ _. spelled_bind r (λ x.
    spelled_bind spelled_seps (λ _. spelled_bind (spelled_word (k.Plain l.CloseParenthesis)) (λ _. spelled_nothing x)))))

abbrev pub spelled_stmts : {A : Type 0} (R : Form A) → Spelled (stmts R)
spelled_stmts R = ([], [], ([], [], tt, refl, spelled_seps.2, ([], [], [], refl, inr (refl, refl), ([], [], tt, refl, spelled_seps.2, (refl, refl)))))

-- a word, and nothing else
pub a_word : {A : Type 0} (kind : TokenKind) (x : A) → (word (look_of kind) >>= λ _. nothing x) (a_token kind ∷ []) x
a_word kind x = (a_token kind ∷ [], [], 0, refl, (a_token kind, refl, (refl, refl)), (refl, refl))

-- Tests of a token: which looks pass, and where what stops one test stops another.
use Rattle.std.proofs.Common.{◌≡◌, Bool, true, false, List, [], ◌∷◌, refl, sym, ap, subst, ◌∙◌, rules}
use Rattle.std.proofs.lemmas.Bool.{both_ways, false_from_ne_true, or_from, or_parts}
use denote.Enum.Bare.{same_true, true_same}
use Rattle.cr_syntax.specs.contracts.look.TokenLook.{the_type}
use Rattle.cr_syntax.specs.declared.look.TokenLook.{TokenLook}
use Rattle.cr_syntax.specs.declared.token.Token.{Token}
use Rattle.cr_syntax.specs.Look.{look_of}
use Rattle.cr_readers.specs.Reader.{Test, passes, same_look, seen, tight_seen, either, never}
use Rattle.cr_exact.specs.Exact.{Stops}

pub same_look_is : (a b : TokenLook) → same_look a b ≡ true → a ≡ b
unfolding same_look
same_look_is a b e = same_true the_type (search rules) a b e

pub look_is_same : (a b : TokenLook) → a ≡ b → same_look a b ≡ true
unfolding same_look
look_is_same a b e = true_same the_type a b e

pub other_look : (a b : TokenLook) → (a ≡ b → ⊥) → same_look a b ≡ false
other_look a b other = false_from_ne_true (same_look a b) (λ e. other (same_look_is a b e))

-- ---- what stops one test, and so another

-- what the first lets pass, the second does
abbrev pub Less : Test → Test → Type 0
Less g h = (look : TokenLook) (spaced : Bool) → h look spaced ≡ false → g look spaced ≡ false

pub stops_less : (g h : Test) → Less g h → (ts : List Token) → Stops h ts → Stops g ts
stops_less g h less [] stop = refl
stops_less g h less (t ∷ ts) stop = less (look_of t.kind) t.spaced stop

pub less_never : (h : Test) → Less never h
less_never h _ spaced e = refl

pub less_either : (a b h : Test) → Less a h → Less b h → Less (either a b) h
less_either a b h left right look spaced e = or_from (a look spaced) (b look spaced) (left look spaced e) (right look spaced e)

pub less_left : (g a b : Test) → Less g a → Less g (either a b)
less_left g a b less look spaced e = less look spaced ((or_parts _ _ e).0)

pub less_right : (g a b : Test) → Less g b → Less g (either a b)
less_right g a b less look spaced e = less look spaced ((or_parts _ _ e).1)

pub never_stops : (ts : List Token) → Stops never ts
never_stops [] = refl
never_stops (t ∷ ts) = refl

pub stops_left : (a b : Test) (ts : List Token) → Stops (either a b) ts → Stops a ts
stops_left a b ts stop = stops_less a (either a b) (less_left a a b (λ look spaced e. e)) ts stop

pub stops_right : (a b : Test) (ts : List Token) → Stops (either a b) ts → Stops b ts
stops_right a b ts stop = stops_less b (either a b) (less_right b a b (λ look spaced e. e)) ts stop

-- ---- tokens of one look

-- all tokens of this look pass, or none does
abbrev pub At : Bool → TokenLook → Test → Type 0
At v look g = (spaced : Bool) → g look spaced ≡ v

abbrev pub Not : TokenLook → Test → Type 0
Not look g = At false look g

abbrev pub Passes : TokenLook → Test → Type 0
Passes look test = At true look test

pub at_seen : (look : TokenLook) → Passes look (seen look)
at_seen look spaced = look_is_same look look refl

-- a token of one look is none of the other
pub not_seen : (a b : TokenLook) → (a ≡ b → ⊥) → Not a (seen b)
not_seen a b other spaced = other_look a b other

pub not_tight_seen : (a b : TokenLook) → same_look a b ≡ false → Not a (tight_seen b)
not_tight_seen a b e true = refl
not_tight_seen a b e false = e

-- no token of this look passes one or the other
pub not_either : (look : TokenLook) (a b : Test) → Not look a → Not look b → Not look (either a b)
not_either look a b first second spaced = or_from (a look spaced) (b look spaced) (first spaced) (second spaced)

pub less_seen : (look : TokenLook) (h : Test) → Passes look h → Less (seen look) h
less_seen look h is found spaced e = other_look found look (λ same. both_ways _ (ap (λ v. h v spaced) (sym same) ∙ e) (is spaced))

pub less_tight_seen : (look : TokenLook) (h : Test) → h look false ≡ true → Less (tight_seen look) h
less_tight_seen _ h is found true e = refl
less_tight_seen look h is found false e = other_look found look (λ same. both_ways _ (ap (λ v. h v false) (sym same) ∙ e) is)

-- ---- two tests that no token passes both

abbrev pub Apart : Test → Test → Type 0
Apart test g = (look : TokenLook) (spaced : Bool) → test look spaced ≡ true → g look spaced ≡ false

pub apart_stops : (test g : Test) → Apart test g → (ts : List Token) → passes test ts ≡ true → Stops g ts
apart_stops test g apart [] is = refl
apart_stops test g apart (t ∷ ts) is = apart (look_of t.kind) t.spaced is

-- What passes the one test is no token of this look, for no such token passes it.
pub apart_seen : (test : Test) (look : TokenLook) → Not look test → Apart test (seen look)
apart_seen test look lets found spaced is = other_look found look (λ e. both_ways _ (lets spaced) (subst (λ v. test v spaced ≡ true) e is))

-- Where a token of this look passes the one test, none passes the other.
pub seen_apart : (look : TokenLook) (g : Test) → Not look g → Apart (seen look) g
seen_apart look g lets found spaced is = subst (λ v. g v spaced ≡ false) (sym (same_look_is found look is)) (lets spaced)

-- the same by a test of looks
pub look_apart : (test : TokenLook → Bool) (look : TokenLook) → test look ≡ false → (found : TokenLook) (spaced : Bool) → test found ≡ true → seen look found spaced ≡ false
look_apart test look lets found spaced is = apart_seen (λ v _. test v) look (λ _. lets) found spaced is

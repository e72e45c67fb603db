-- The longest operator at the front.
use Rattle.std.proofs.Common.{◌≡◌, ℕ, zero, suc, ◌<◌, ◌≤◌, Bool, true, false, cond, ◌&&◌, List, [], ◌∷◌, length, take, drop, ◌==◌, Option, Some, None, refl, sym, ap, subst, ◌∙◌, arith}
use Rattle.std.proofs.lemmas.Bool.{eqb-true, and_parts}
use Rattle.std.specs.Option.{option_map}
use Rattle.std.proofs.Math.Bool.{and-false}
use Rattle.cr_syntax.specs.declared.look.TokenLook.{TokenLook}
use Rattle.cr_syntax.specs.declared.look.TokenLook.TheVariants as l
use Rattle.cr_syntax.specs.declared.token.TokenKind.TheVariants.{Plain}
use Rattle.cr_syntax.specs.Operators.{operator_look}
use Rattle.cr_lex.specs.Longest.{IsLongest, HasNone}
use Rattle.cr_lex.specs.Words.{operator_form, two_at, three_at}

-- no operator has more than three bytes
no_four : (a b c d : ℕ) (es : List ℕ) → operator_look (a ∷ b ∷ c ∷ d ∷ es) ≡ None
no_four a b c d es = simp and-false

no_more : (a : ℕ) (bs : List ℕ) (m : ℕ) → 2 < m → m ≤ length bs → operator_form a (take m bs) (drop m bs) ≡ None
no_more a bs zero above within = absurd (omega arith)
no_more a bs (suc zero) above within = absurd (omega arith)
no_more a bs (suc (suc zero)) above within = absurd (omega arith)
no_more a [] (suc (suc (suc m))) above within = absurd (omega arith)
no_more a (b ∷ []) (suc (suc (suc m))) above within = absurd (omega arith)
no_more a (b ∷ c ∷ []) (suc (suc (suc m))) above within = absurd (omega arith)
no_more a (b ∷ c ∷ d ∷ es) (suc (suc (suc m))) above within = ap (option_map Plain) (no_four a b c d (take m es))

past_two : (a : ℕ) (bs : List ℕ) → three_at a bs ≡ None → (m : ℕ) → 1 < m → m ≤ length bs → operator_form a (take m bs) (drop m bs) ≡ None
past_two a bs none zero above within = absurd (omega arith)
past_two a bs none (suc zero) above within = absurd (omega arith)
past_two a [] none (suc (suc zero)) above within = absurd (omega arith)
past_two a (b ∷ []) none (suc (suc zero)) above within = absurd (omega arith)
past_two a (b ∷ c ∷ bs) none (suc (suc zero)) above within = ap (option_map Plain) none
past_two a bs none (suc (suc (suc m))) above within = no_more a bs (suc (suc (suc m))) (omega arith) within

past_one : (a : ℕ) (bs : List ℕ) → three_at a bs ≡ None → two_at a bs ≡ None → (m : ℕ) → 0 < m → m ≤ length bs → operator_form a (take m bs) (drop m bs) ≡ None
past_one a bs none two zero above within = absurd (omega arith)
past_one a [] none two (suc zero) above within = absurd (omega arith)
past_one a (b ∷ bs) none two (suc zero) above within = ap (option_map Plain) two
past_one a bs none two (suc (suc m)) above within = past_two a bs none (suc (suc m)) (omega arith) within

apart : (x y z : Bool) (o p : Option TokenLook) → (x && y) ≡ false → cond (x && (y && z)) o p ≡ p
apart false y z o p e = refl
apart true false z o p e = refl
apart true true z o p e = absurd cc

-- the operators of three bytes
by_three : (a b c : ℕ) → operator_look (a ∷ b ∷ c ∷ []) ≡ cond (a == 47 && (b == 47 && (c == 61 && true))) (Some l.SlashSlashEqual) (cond (a == 124 && (b == 124 && (c == 61 && true))) (Some l.OrOrEqual) None)
by_three a b c = simp and-false

not_twice : (a b d : ℕ) → (operator_look (d ∷ d ∷ []) ≡ None → ⊥) → operator_look (a ∷ b ∷ []) ≡ None → (a == d && b == d) ≡ false
not_twice a b d never e = by_test (a == d && b == d) refl
  where
    by_test : (t : Bool) → (a == d && b == d) ≡ t → t ≡ false
    by_test false is = refl
    by_test true is =
        let first : a ≡ d = eqb-true a d (and_parts (a == d) (b == d) is).0 in
        let second : b ≡ d = eqb-true b d (and_parts (a == d) (b == d) is).1 in
        absurd (never (subst (λ (x : ℕ). operator_look (x ∷ d ∷ []) ≡ None) first (subst (λ (y : ℕ). operator_look (a ∷ y ∷ []) ≡ None) second e)))

-- every operator of three bytes begins with one of two
pub no_three : (a : ℕ) (bs : List ℕ) → two_at a bs ≡ None → three_at a bs ≡ None
no_three a [] e = refl
no_three a (b ∷ []) e = refl
no_three a (b ∷ c ∷ bs) e =
    by_three a b c
    ∙ apart (a == 47) (b == 47) (c == 61 && true) (Some l.SlashSlashEqual) (cond (a == 124 && (b == 124 && (c == 61 && true))) (Some l.OrOrEqual) None) (not_twice a b 47 (λ no. cc) e)
    ∙ apart (a == 124) (b == 124) (c == 61 && true) (Some l.OrOrEqual) None (not_twice a b 124 (λ no. cc) e)

pub longest_three : (a : ℕ) (bs : List ℕ) (found : TokenLook) → Some found ≡ three_at a bs → IsLongest (operator_form a) bs 2 (Plain found)
longest_three a [] found e = absurd cc
longest_three a (b ∷ []) found e = absurd cc
longest_three a (b ∷ c ∷ bs) found e = record { within = omega arith; here = ap (option_map Plain) (sym e); longest = λ m above within. no_more a (b ∷ c ∷ bs) m above within }

pub longest_two : (a : ℕ) (bs : List ℕ) (found : TokenLook) → three_at a bs ≡ None → Some found ≡ two_at a bs → IsLongest (operator_form a) bs 1 (Plain found)
longest_two a [] found none e = absurd cc
longest_two a (b ∷ bs) found none e = record { within = omega arith; here = ap (option_map Plain) (sym e); longest = λ m above within. past_two a (b ∷ bs) none m above within }

pub longest_one : (a : ℕ) (bs : List ℕ) (found : TokenLook) → three_at a bs ≡ None → two_at a bs ≡ None → Some found ≡ operator_look (a ∷ []) → IsLongest (operator_form a) bs 0 (Plain found)
longest_one a bs found none two e = record { within = omega arith; here = ap (option_map Plain) (sym e); longest = λ m above within. past_one a bs none two m above within }

pub no_operator : (a : ℕ) (bs : List ℕ) → three_at a bs ≡ None → two_at a bs ≡ None → None ≡ operator_look (a ∷ []) → HasNone (operator_form a) bs
no_operator a bs none two e zero within = ap (option_map Plain) (sym e)
no_operator a bs none two e (suc m) within = past_one a bs none two (suc m) (omega arith) within

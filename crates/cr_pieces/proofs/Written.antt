-- Steps of writing.
use Rattle.std.proofs.Common.{◌≡◌, ℕ, zero, suc, ◌+◌, ◌/◌, ◌%◌, ◌^◌, ◌<◌, ◌≤◌, List, [], ◌∷◌, ◌++◌, Result, Ok, Err, refl, sym, ap, ◌∙◌, arith, append_assoc}
use Rattle.std.specs.Prelude.{OnOk}
use Rattle.std.specs.Fmt.{decimal}
use Rattle.std.proofs.lemmas.Fmt.{decimal_step}
use Rattle.std.proofs.lemmas.List.{append-nil}
use Rattle.cr_pieces.specs.Pieces.{Piece, spaces, piece_bytes, text_of}
use Rattle.cr_pieces.specs.Writes.{Writes}
use Rattle.cr_pieces.proofs.Joined.{text_append}

pub then : {T E P Q : Type 0} (r : Result T E) → OnOk r P → (P → Q) → OnOk r Q
then (Ok x) p f = f p
then (Err e) p f = tt

-- one after the other
pub both : (ps qs : List Piece) (a b c : List ℕ) → Writes ps a b → Writes qs b c → Writes (ps ++ qs) a c
both ps qs a b c w v = record { is = v.is ∙ ap (λ (x : List ℕ). x ++ text_of qs) w.is ∙ append_assoc a (text_of ps) (text_of qs) ∙ ap (λ (x : List ℕ). a ++ x) (sym (text_append ps qs)) }

-- one piece, whose bytes were put
pub one : (p : Piece) (bytes : List ℕ) (a b : List ℕ) → piece_bytes p ≡ bytes → b ≡ a ++ bytes → Writes (p ∷ []) a b
one p bytes a b e f = record { is = f ∙ ap (λ (x : List ℕ). a ++ x) (sym e ∙ sym (append-nil (piece_bytes p))) }

pub nothing : (a : List ℕ) → Writes [] a a
nothing a = record { is = sym (append-nil a) }

pub decimal_more : (n : ℕ) (a b d : List ℕ) → 10 ≤ n → n < 2 ^ 64 → b ≡ a ++ decimal (n / 10) → d ≡ b ++ (48 + n % 10) ∷ [] → d ≡ a ++ decimal n
decimal_more n a b d some below e f = f ∙ ap (λ (v : List ℕ). v ++ (48 + n % 10) ∷ []) e ∙ append_assoc a (decimal (n / 10)) ((48 + n % 10) ∷ []) ∙ ap (λ (v : List ℕ). a ++ v) (sym (decimal_step n some below))

spaces_one : (n : ℕ) → spaces n ++ 32 ∷ [] ≡ spaces (suc n)
spaces_one zero = refl
spaces_one (suc n) = ap (λ (v : List ℕ). 32 ∷ v) (spaces_one n)

pub one_more : (i : ℕ) (a b c : List ℕ) → b ≡ a ++ spaces i → c ≡ b ++ 32 ∷ [] → c ≡ a ++ spaces (i + 1)
one_more i a b c e f = f ∙ ap (λ (v : List ℕ). v ++ 32 ∷ []) e ∙ append_assoc a (spaces i) (32 ∷ []) ∙ ap (λ (v : List ℕ). a ++ v) (spaces_one i ∙ (let e : suc i ≡ i + 1 = omega arith in ap spaces e))

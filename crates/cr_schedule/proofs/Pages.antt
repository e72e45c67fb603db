-- A line that is put on a page piece by piece.
use Rattle.std.proofs.Common.{◌≡◌, ℕ, ◌+◌, ◌/◌, ◌^◌, ◌<◌, ◌≤◌, List, [], ◌∷◌, ◌++◌, length, sym, ap, ◌∙◌, append_assoc, length-append}
use Rattle.std.specs.Fmt.{decimal}
use Rattle.std.proofs.lemmas.Fmt.{decimal_step}
use Rattle.std.proofs.lemmas.List.{append-nil}
use Rattle.cr_schedule.proofs.Lines.{five_fields}

-- a number without its last digit has one digit less
pub length-decimal_step : (n : ℕ) → 10 ≤ n → n < 2 ^ 64 → length (decimal n) ≡ length (decimal (n / 10)) + 1
length-decimal_step n more small = ap length (decimal_step n more small) ∙ length-append (decimal (n / 10)) _

-- a field and the byte that ends it, and then more
field_more : (page field more : List ℕ) (end : ℕ) → (page ++ (field ++ end ∷ [])) ++ more ≡ page ++ (field ++ end ∷ more)
field_more page field more end = append_assoc page (field ++ end ∷ []) more ∙ ap (λ (t : List ℕ). page ++ t) (append_assoc field (end ∷ []) more)

step_back : (page before field more : List ℕ) (end : ℕ) (whole : List ℕ) → before ≡ page ++ (field ++ end ∷ []) → whole ≡ before ++ more → whole ≡ page ++ (field ++ end ∷ more)
step_back page before field more end whole e is = is ∙ ap (λ (t : List ℕ). t ++ more) e ∙ field_more page field more end

-- a letter, and five fields
pub five_pieces : (page p0 p1 p2 p3 p4 p5 a b c d f : List ℕ) (letter space feed : ℕ)
    → p0 ≡ page ++ letter ∷ space ∷ [] → p1 ≡ p0 ++ (a ++ space ∷ []) → p2 ≡ p1 ++ (b ++ space ∷ []) → p3 ≡ p2 ++ (c ++ space ∷ []) → p4 ≡ p3 ++ (d ++ space ∷ []) → p5 ≡ p4 ++ (f ++ feed ∷ [])
    → p5 ≡ page ++ ((letter ∷ space ∷ (a ++ space ∷ (b ++ space ∷ (c ++ space ∷ (d ++ space ∷ f))))) ++ feed ∷ [])
five_pieces page p0 p1 p2 p3 p4 p5 a b c d f letter space feed e0 e1 e2 e3 e4 e5 =
    let t5 = f ++ feed ∷ [] in
    let t4 = d ++ space ∷ t5 in
    let t3 = c ++ space ∷ t4 in
    let t2 = b ++ space ∷ t3 in
    let t1 = a ++ space ∷ t2 in
    let s4 = step_back p3 p4 d t5 space p5 e4 e5 in
    let s3 = step_back p2 p3 c t4 space p5 e3 s4 in
    let s2 = step_back p1 p2 b t3 space p5 e2 s3 in
    let s1 = step_back p0 p1 a t2 space p5 e1 s2 in
    let joined : p5 ≡ page ++ letter ∷ space ∷ t1 = s1 ∙ ap (λ (t : List ℕ). t ++ t1) e0 ∙ append_assoc page (letter ∷ space ∷ []) t1 in
    let fields = a ++ space ∷ (b ++ space ∷ (c ++ space ∷ (d ++ space ∷ f))) in
    let line : fields ++ feed ∷ [] ≡ t1 = sym (append-nil (fields ++ feed ∷ [])) ∙ five_fields a b c d f [] space feed in
    joined ∙ ap (λ (t : List ℕ). page ++ letter ∷ space ∷ t) (sym line)

-- A read into the front of a buffer.
use Rattle.std.proofs.Common.{◌≡◌, ℕ, ◌≤◌, List, ◌++◌, length, take, drop, arith}
use Rattle.std.proofs.lemmas.List.{take-append-drop, drop-append-le}

-- Past what was read the buffer is as it was.
pub drop-front : (old front : List ℕ) (count most : ℕ) → length front ≡ length (take most old) → count ≤ length (take most old) → drop count front ≡ drop count (take most old) → drop count (front ++ drop most old) ≡ drop count old
drop-front old front count most same within e =
    let inside : count ≤ length front = omega arith in
    let joined : drop count (take most old ++ drop most old) ≡ drop count (take most old) ++ drop most old = drop-append-le count (take most old) (drop most old) within in
    rw (drop-append-le count front (drop most old) inside, e, ← joined, take-append-drop most old)

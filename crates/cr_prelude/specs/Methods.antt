-- The built-in methods of each class, written out apart from the table of the code: a name and a number of arguments each.
use Rattle.std.specs.Prelude.{ℕ, List, [], ◌∷◌, codes}

abbrev pub object_methods : List (List ℕ × ℕ)
object_methods =
    (codes "==", 1) ∷ []

abbrev pub nil_methods : List (List ℕ × ℕ)
nil_methods =
    (codes "==", 1) ∷ (codes "to_s", 0) ∷ []

abbrev pub bool_methods : List (List ℕ × ℕ)
bool_methods =
    (codes "==", 1) ∷ (codes "to_s", 0) ∷ []

abbrev pub integer_methods : List (List ℕ × ℕ)
integer_methods =
    (codes "+", 1) ∷ (codes "-", 1) ∷ (codes "*", 1) ∷ (codes "//", 1) ∷ (codes "%", 1) ∷ (codes "&+", 1) ∷ (codes "&-", 1) ∷ (codes "&*", 1) ∷ (codes "<", 1) ∷ (codes "<=", 1) ∷ (codes ">", 1) ∷ (codes ">=", 1) ∷ (codes "-", 0) ∷ (codes "==", 1) ∷ (codes "to_i", 0) ∷ (codes "to_i64", 0) ∷ (codes "to_s", 0) ∷ []

abbrev pub string_methods : List (List ℕ × ℕ)
string_methods =
    (codes "+", 1) ∷ (codes "*", 1) ∷ (codes "==", 1) ∷ (codes "<", 1) ∷ (codes "<=", 1) ∷ (codes ">", 1) ∷ (codes ">=", 1) ∷ (codes "size", 0) ∷ (codes "bytesize", 0) ∷ (codes "empty?", 0) ∷ (codes "starts_with?", 1) ∷ (codes "to_s", 0) ∷ []

abbrev pub array_methods : List (List ℕ × ℕ)
array_methods =
    (codes "size", 0) ∷ (codes "empty?", 0) ∷ (codes "[]", 1) ∷ (codes "[]?", 1) ∷ (codes "[]=", 2) ∷ (codes "<<", 1) ∷ (codes "push", 1) ∷ (codes "pop", 0) ∷ (codes "pop?", 0) ∷ (codes "shift", 0) ∷ (codes "shift?", 0) ∷ (codes "first", 0) ∷ (codes "last", 0) ∷ (codes "clear", 0) ∷ []

abbrev pub hash_methods : List (List ℕ × ℕ)
hash_methods =
    (codes "size", 0) ∷ (codes "empty?", 0) ∷ (codes "[]", 1) ∷ (codes "[]?", 1) ∷ (codes "[]=", 2) ∷ (codes "has_key?", 1) ∷ (codes "delete", 1) ∷ (codes "keys", 0) ∷ (codes "values", 0) ∷ (codes "clear", 0) ∷ []

abbrev pub channel_methods : List (List ℕ × ℕ)
channel_methods =
    (codes "new", 0) ∷ (codes "new", 1) ∷ (codes "send", 1) ∷ (codes "receive", 0) ∷ (codes "receive?", 0) ∷ (codes "close", 0) ∷ (codes "closed?", 0) ∷ (codes "==", 1) ∷ []

abbrev pub concurrent_methods : List (List ℕ × ℕ)
concurrent_methods =
    (codes "new", 1) ∷ (codes "spawn", 0) ∷ (codes "==", 1) ∷ []

abbrev pub parallel_methods : List (List ℕ × ℕ)
parallel_methods =
    (codes "new", 2) ∷ (codes "spawn", 0) ∷ (codes "==", 1) ∷ []

abbrev pub isolated_methods : List (List ℕ × ℕ)
isolated_methods =
    (codes "new", 1) ∷ (codes "spawn", 0) ∷ (codes "wait", 0) ∷ (codes "==", 1) ∷ []

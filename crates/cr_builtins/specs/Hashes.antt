-- What a hash does: its list of pairs afterwards, and the answer. Its keys are distinct.
use Rattle.std.specs.Prelude.{◌==◌, ◌||◌, nat_lt, Bool, List, [], ◌∷◌, length, map, is_some, Option, Some, None, if◌then◌else◌}
use Rattle.cr_value.specs.declared.value.Value.{Value}
use Rattle.cr_value.specs.declared.value.Value.TheVariants.{Nil}
use Rattle.cr_builtins.specs.declared.raise.Raise.TheVariants.{Key, Limit}
use Rattle.cr_builtins.specs.declared.answer.TheConstants.{ENTRY_LIMIT}
use Rattle.cr_builtins.specs.declared.answer.Answer.TheVariants.{Gives, Itself, Makes, Raises}
use Rattle.cr_builtins.specs.declared.operation.HashOperation.{HashOperation}
use Rattle.cr_builtins.specs.declared.operation.HashOperation.TheVariants as hash
use Rattle.cr_builtins.specs.Outcomes.{second}
use Rattle.cr_builtins.specs.Equality.{same}
use Rattle.cr_builtins.specs.Scalars.{is_reference}
use Rattle.cr_builtins.specs.Cells.{Change, change, with, or_else, flag, count}

abbrev pub Pairs : Type 0
Pairs = List (Value × Value)

-- the value of a key
abbrev pub find : Value → Pairs → Option Value
find key [] = None
find key (pair ∷ pairs) = if same key pair.0 then Some pair.1 else find key pairs

abbrev pub has : Value → Pairs → Bool
has key pairs = is_some (find key pairs)

-- a key that is there keeps its place and takes the value, and a new key goes last
abbrev pub put : Value → Value → Pairs → Pairs
put key v [] = (key, v) ∷ []
put key v (pair ∷ pairs) = if same key pair.0 then (pair.0, v) ∷ pairs else pair ∷ put key v pairs

-- the pairs without that of a key, closed up
abbrev pub without : Value → Pairs → Pairs
without key [] = []
without key (pair ∷ pairs) = if same key pair.0 then pairs else pair ∷ without key pairs

-- a value under a key, where the key is there or the limit lets it in
abbrev pub set : Pairs → Value → Value → Change Pairs
set pairs key v = if has key pairs || nat_lt (length pairs) ENTRY_LIMIT then change (put key v pairs) (Gives v) else change pairs (Raises Limit)

-- a key: any value but a reference
abbrev pub key_of : Value → Option Value
key_of v = if is_reference v then None else Some v

-- the first argument, as a key
abbrev pub key_operand : List Value → Option Value
key_operand [] = None
key_operand (v ∷ vs) = key_of v

unfoldable pub on_hash : HashOperation → Pairs → List Value → Change Pairs
on_hash hash.Size pairs arguments = change pairs (count (length pairs))
on_hash hash.IsEmpty pairs arguments = change pairs (flag (length pairs == 0))
on_hash hash.Get pairs arguments = with pairs (key_operand arguments) (λ key. change pairs (or_else (find key pairs) (Raises Key)))
on_hash hash.GetOrNil pairs arguments = with pairs (key_operand arguments) (λ key. change pairs (or_else (find key pairs) (Gives Nil)))
on_hash hash.Set pairs arguments = with pairs (key_operand arguments) (λ key. with pairs (second arguments) (set pairs key))
on_hash hash.HasKey pairs arguments = with pairs (key_operand arguments) (λ key. change pairs (flag (has key pairs)))
on_hash hash.Delete pairs arguments = with pairs (key_operand arguments) (λ key. change (without key pairs) (or_else (find key pairs) (Gives Nil)))
on_hash hash.Keys pairs arguments = change pairs (Makes (map (λ pair. pair.0) pairs))
on_hash hash.Values pairs arguments = change pairs (Makes (map (λ pair. pair.1) pairs))
on_hash hash.Clear pairs arguments = change [] Itself

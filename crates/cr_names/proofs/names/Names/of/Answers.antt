use Rattle.std.proofs.Common.{◌≡◌, ℕ, List, Option, length, ◌∙◌, ap, arith}
use Rattle.cr_base.specs.declared.ids.NameId.{NameId}
use Rattle.cr_names.specs.Names.{own_names, own_from}
use Rattle.cr_names.specs.Tables.{by_name, Naming}
use Rattle.cr_names.proofs.Owning.{own_is, built_told, kinds_told}
use Rattle.cr_names.proofs.names.Names.of.Goals as goal

pub overflow_sub-built_in_count : goal.overflow_sub-built_in_count
overflow_sub-built_in_count c = omega (arith, c.built_in_count.ensures.few)

pub places-requires : goal.places-requires
places-requires c =
    let t = c.args.core.now in
    let built = c.in_ok-built_in.built_in.items in
    let either = c.in_ok-either.either.items in
    let rows = c.rows.result.now in
    c.as_slice-3.ensures.value
    ∙ own_is t built either rows c.in_ok-own.own.items c.rows.ensures.rows (built_told t c.names.result.now built c.names.ensures c.in_ok-built_in.ensures) c.in_ok-either.ensures
    (c.in_ok-own.ensures ∙ ap (λ (l : List (Option ℕ)). own_from (by_name l) (by_name c.as_slice-2.result.now) 0 rows) c.as_slice.ensures.value
    ∙ ap (λ (l : List (Option ℕ)). own_from (by_name built) (by_name l) 0 rows) c.as_slice-2.ensures.value)

pub returns : goal.returns
returns c =
    let t = c.args.core.now in
    let built = c.in_ok-built_in.built_in.items in
    let either = c.in_ok-either.either.items in
    let rows = c.rows.result.now in
    let own : c.in_ok-own.own.items ≡ own_names t =
    own_is t built either rows c.in_ok-own.own.items c.rows.ensures.rows (built_told t c.names.result.now built c.names.ensures c.in_ok-built_in.ensures) c.in_ok-either.ensures
    (c.in_ok-own.ensures ∙ ap (λ (l : List (Option ℕ)). own_from (by_name l) (by_name c.as_slice-2.result.now) 0 rows) c.as_slice.ensures.value
    ∙ ap (λ (l : List (Option ℕ)). own_from (by_name built) (by_name l) 0 rows) c.as_slice-2.ensures.value) in
    let n : Naming = record {
      built_in = built;
      classes = c.in_ok-classes.classes.items;
      modules = c.in_ok-modules.modules.items;
      either = either;
      heirs = c.in_ok-heirs.heirs.items;
      parameters = c.in_ok-parameters.parameters.items;
      around = c.in_ok-around.around.items;
      own = c.in_ok-own.own.items;
      places = c.in_ok-places.places.items;
    } in
    record {
      built_in = built_told t c.names.result.now built c.names.ensures c.in_ok-built_in.ensures;
      firsts = kinds_told t n c.in_ok-classes.ensures c.in_ok-modules.ensures c.in_ok-either.ensures c.in_ok-heirs.ensures c.in_ok-parameters.ensures;
      around = c.in_ok-around.ensures;
      own = own;
      places = c.in_ok-places.ensures;
      few = let len = ap (λ (l : List NameId). length l) own in omega (arith, len, c.built_in_count.ensures.count, c.if-len-built_in_count.false, c.len.ensures);
    }

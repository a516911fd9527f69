use Rattle.std.proofs.Common.{◌≡◌, ◌++◌, drop, false, true}
use Rattle.std.specs.List.{flat_map, list_any}
use Rattle.value_headers.specs.Headers.{is_named, values_of}
use Rattle.value_lists.specs.Extract.{items}
use Rattle.value_lists.proofs.extract.tokens_in.Given as goal

abbrev pub invariant-loop-header : goal.invariant-loop-header
invariant-loop-header l = record {
  items_so_far : flat_map items (values_of l.name l.headers) ≡ l.tokens
      ++ flat_map items (values_of l.name (drop l.header-index l.headers));
  nothing : l.found ≡ false → values_of l.name l.headers ≡ values_of l.name (drop l.header-index l.headers);
  something : l.found ≡ true → list_any (is_named l.name) l.headers ≡ true;
}

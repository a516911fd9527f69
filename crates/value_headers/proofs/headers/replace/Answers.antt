use Rattle.std.proofs.Common.{arith, ◌<◌, length, vec_len, vec_capacity}
use Rattle.std.proofs.lemmas.Grind.{common_steps}
use Rattle.value_headers.proofs.HeaderLemmas.{without-room, with_only-found}
use Rattle.value_headers.proofs.headers.replace.Goals as goal

pub insert-requires : goal.insert-requires
insert-requires c =
    let within : c.args.at < length c.args.headers.now.items = grind (arith, c.requires.within) in
    let room = without-room c.args.name.now c.args.headers.now.items c.args.at c.requires.first within in
    grind (arith, room)

pub returns : goal.returns
returns c =
    let within : c.args.at < length c.args.headers.now.items = grind (arith, c.requires.within) in
    let found = with_only-found c.args.name.now c.args.headers.now.items c.args.at c.args.field c.requires.first within
    c.requires.spelled in
    let room : vec_len c.keep_in.new.headers < vec_capacity c.keep_in.new.headers =
    grind (
      arith,
      c.keep_in.ensures.len,
      c.keep_in.ensures.capacity,
      c.remove-first.ensures.len,
      c.remove-first.ensures.capacity,
    ) in
    let inserted = c.insert.ensures.succeeds room in
    grind (arith, common_steps, inserted, found)

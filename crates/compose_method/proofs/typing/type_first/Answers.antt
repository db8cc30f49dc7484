use Rattle.std.proofs.Common.{◌≡◌, true, None, sym, ◌∙◌, ap, arith, length, string_bytes}
use Rattle.compose_method.specs.Table.{begun_by, going_on}
use Rattle.compose_method.specs.Segments.{Segments}
use Rattle.compose_method.proofs.ReadingFronts.{entry_fits, short_keys, reads_entry, reads_rest, types_more}
use Rattle.compose_method.proofs.typing.type_first.Goals as goal

pub returns-in-Some-clause-within : goal.returns-in-Some-clause-within
returns-in-Some-clause-within c =
    rw c.as_slice.ensures
    (entry_fits c.args.table.now c.args.keys.now c.in-Some.entry.now c.entry_of.ensures.table
    (sym c.in-Some.ensures.value)).2

pub returns-in-Some-clause-text : goal.returns-in-Some-clause-text
returns-in-Some-clause-text c =
    let fits = entry_fits c.args.table.now c.args.keys.now c.in-Some.entry.now c.entry_of.ensures.table
    (sym c.in-Some.ensures.value) in
    let several = fits.0.several in
    let read = reads_entry c.args.table.now c.args.keys.now c.in-Some.entry.now (sym c.in-Some.ensures.value)
    (omega arith) c.requires.some in
    rw (c.as_slice.ensures, c.append.ensures.bytes, c.as_str.ensures.value)
    (types_more c.args.table.now c.args.keys.now (string_bytes c.args.text.now) c.in-Some.entry.now.text
    (length c.in-Some.entry.now.keys) read).0

pub returns-in-Some-clause-rest : goal.returns-in-Some-clause-rest
returns-in-Some-clause-rest c =
    let fits = entry_fits c.args.table.now c.args.keys.now c.in-Some.entry.now c.entry_of.ensures.table
    (sym c.in-Some.ensures.value) in
    let several = fits.0.several in
    let read = reads_entry c.args.table.now c.args.keys.now c.in-Some.entry.now (sym c.in-Some.ensures.value)
    (omega arith) c.requires.some in
    rw c.as_slice.ensures
    (types_more c.args.table.now c.args.keys.now (string_bytes c.args.text.now) c.in-Some.entry.now.text
    (length c.in-Some.entry.now.keys) read).1

pub returns-then-goes_on-clause-waiting : goal.returns-then-goes_on-clause-waiting
returns-then-goes_on-clause-waiting c _ =
    let none : None ≡ begun_by c.args.table.now.entries c.args.keys.now =
    rw c.in_default.is at c.entry_of.ensures.value in
    let goes : going_on c.args.table.now.entries c.args.keys.now ≡ true = sym c.goes_on.ensures ∙ c.if-goes_on.true in
    let read = reads_rest c.args.table.now c.args.keys.now (sym none) goes c.requires.some in (
      ap (λ (s : Segments). s.typed) read,
      ap (λ (s : Segments). s.rest) read,
      short_keys c.args.table.now c.args.keys.now c.entry_of.ensures.table goes,
    )

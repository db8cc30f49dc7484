use Rattle.std.proofs.lemmas.List.{take_rest}
use Rattle.wio_core.proofs.FirstFeed.{found_line, found_late, found_none, lacks_all}
use Rattle.wio_core.proofs.line_search.look.Goals as goal

pub returns-then-seen-n-le-LONGEST : goal.returns-then-seen-n-le-LONGEST
returns-then-seen-n-le-LONGEST c =
    let told = rw take_rest at c.in-Some.ensures in
    found_line _ _ _ c.requires.within c.requires.lacks told.0 told.1 c.if-seen-n-le-LONGEST.true

pub returns-else-seen-n-le-LONGEST : goal.returns-else-seen-n-le-LONGEST
returns-else-seen-n-le-LONGEST c =
    let told = rw take_rest at c.in-Some.ensures in
    found_late _ _ _ c.requires.within c.requires.lacks told.0 c.if-seen-n-le-LONGEST.false

pub returns-then-bytes-le-LONGEST : goal.returns-then-bytes-le-LONGEST
returns-then-bytes-le-LONGEST c =
    record {
      few = c.if-bytes-le-LONGEST.true;
      lacks = lacks_all _ _ c.requires.within c.requires.lacks (rw take_rest
          at c.in-None.ensures);
    }

pub returns-else-bytes-le-LONGEST : goal.returns-else-bytes-le-LONGEST
returns-else-bytes-le-LONGEST c =
    found_none _ _ c.requires.within c.requires.lacks (rw take_rest at c.in-None.ensures) c.if-bytes-le-LONGEST.false

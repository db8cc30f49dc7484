-- The edits that are told as one group.
use Rattle.relay_model.specs.Batch.{Batch, Preedit}
use Rattle.relay_objects.specs.declared.post.Group.{Group}
use Rattle.relay_objects.specs.declared.post.Preedit.{Preedit as Held}

abbrev pub preedit_in : Held → Preedit
preedit_in p = record { text = p.text; begin = p.begin; end = p.end }

-- the edits as a batch
abbrev pub batch_in : Group → Batch
batch_in g =
    record {
      deletion = record { before = g.before; after = g.after };
      string = g.string;
      preedit = preedit_in g.preedit;
    }

-- What the words ask for, as it was read
use Rattle.serve_words.specs.declared.serving.Needed.{Needed}
use Rattle.serve_words.specs.declared.serving.Serving.{Serving}
use Rattle.serve_words.specs.Words as words

abbrev pub asked : Serving → words.Serving
asked s = record {
  app = s.app.now;
  method = s.method.now;
  shell = s.shell.now;
  order = s.order.now;
  limits = s.limits;
  wait = s.wait;
}

-- what has to be given
abbrev pub needed : Needed → words.Needed
needed n = record {
  app = n.app.now;
  method = n.method.now;
  shell = n.shell.now;
  order = n.order.now;
}

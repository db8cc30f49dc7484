use Rattle.std.proofs.Common.{rules, ◌≡◌, ◌∷◌, ◌∙◌, List, ap, length}
use Rattle.serve_net.specs.declared.door.Door.{Door}
use Rattle.serve_net.specs.declared.door.Door.TheVariants.{Method}
use Rattle.serve_record.proofs.RecordGrows.{err_by}
use Rattle.serve_run.specs.Opened.{opened_first}
use Rattle.serve_run.proofs.open.open_all.Goals as goal

pub returns-clause-open : goal.returns-clause-open
returns-clause-open g c = search rules

pub returns-clause-front : goal.returns-clause-front
returns-clause-front g c =
    let links = g.N.Net.links c.args.net.now in
    let two : g.N.Net.listens c.listen-2.new.self
    ≡ opened_first 2 (length links) (g.N.Net.listens c.args.net.now) =
    c.in_ok-listen-2.ensures.listens
    ∙ (ap (λ (ls : List Door). (Method, length ls) ∷ g.N.Net.listens c.listen.new.self) c.in_ok-listen.ensures.links
    ∙ ap (λ t. (Method, length links) ∷ t) c.in_ok-listen.ensures.listens) in
    err_by c.listen-3.result _ _ (λ none. (2, none ∙ two)) c.listen-3.ensures.none

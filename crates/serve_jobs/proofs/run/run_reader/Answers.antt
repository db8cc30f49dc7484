use Rattle.std.proofs.Common.{◌≡◌, ◌-◌, ◌++◌, ℕ, List, Option, None, Some, refl, sym, ◌∙◌, ap, subst, arith}
use Rattle.std.specs.Io.KnownBytes.{Appends}
use Rattle.std.proofs.lemmas.Grind.{merely, common_steps}
use Rattle.wio_core.specs.Io.{StaysQuiet}
use Rattle.wio_core.specs.Lines.{TookFrom}
use Rattle.hub_lock.specs.Limits.{Limits}
use Rattle.hub_lock.specs.Passes.{PeerPass}
use Rattle.peer_link.specs.declared.ends.ReadEnd.{ReadEnd}
use Rattle.peer_link.specs.ReadsPeer.{ReadsPeer}
use Rattle.serve_net.specs.NewLinks.{IsNothing, IsNewSource}
use Rattle.serve_jobs.specs.LoopLaws.{IsTold, HasRead}
use Rattle.serve_jobs.proofs.run.run_reader.Goals as goal

-- what a new source tells is what was read
told-new : (before after : Option (List ℕ)) (read : List ℕ) → IsNothing before → StaysQuiet before after
    → Appends before after read → IsTold after read
told-new None after read nothing quiet more = subst (λ told. IsTold told read) (sym (quiet refl)) tt
told-new (Some all) None read nothing quiet more = tt
told-new (Some all) (Some now) read nothing quiet more = more ∙ ap (λ xs. xs ++ read) nothing

-- of a source that was new, a reader has its law with the source's count
has-read : (limits : Limits) (pass : PeerPass) (before after left_before left : Option (List ℕ)) (old new : ℕ)
    (end : ReadEnd)
    → pass.seat.constant ≡ Some limits → IsNewSource before old → StaysQuiet before after
    → ((read : List ℕ) × TookFrom before after left_before left read × ReadsPeer limits pass read left (new - old) end)
    → HasRead pass after left new end
has-read limits pass before after left_before left old new end constant is quiet law =
    let none : old ≡ 0 = is.whole in record {
      limits = limits;
      constant = constant;
      read = law.0;
      told = told-new before after law.0 is.gave quiet law.1.given;
      law = subst (λ n. ReadsPeer limits pass law.0 left n end)
          (let same : new - old ≡ new = omega arith in same) law.2;
    }

pub invariant_of-result-clause-law : goal.invariant_of-result-clause-law
invariant_of-result-clause-law g c =
    merely (has-read c.deref.result.now.limits c.read_peer-end.new.pass (g.S.Source.given c.args.job.source)
    (g.S.Source.given c.read_peer-end.new.source) (g.S.Source.left c.args.job.source)
    (g.S.Source.left c.read_peer-end.new.source)
    (g.S.Source.fault_count c.args.job.source) (g.S.Source.fault_count c.read_peer-end.new.source)
    c.read_peer-end.result
    (grind (arith, common_steps)) c.args.job.link c.read_peer-end.ensures.given_quiet c.read_peer-end.ensures.law)

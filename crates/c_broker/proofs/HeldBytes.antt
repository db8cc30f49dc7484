-- What waits of peers' bytes where nothing changes.
use Rattle.std.proofs.Common.{◌≡◌, ℕ, List, Bool, true, false, refl, ap, sym, subst, ◌∙◌}
use Rattle.std.specs.Prelude.{cond, nat_eq}
use Rattle.std.proofs.lemmas.Bool.{eqb-true}
use Rattle.broker_core.specs.declared.answers.Refused.{Refused}
use Rattle.c_broker.specs.Steps.{not_done}
use Rattle.c_broker.specs.Seated.{Held, waiting, WaitsAt, Keeps}

same_at : (held : Held) (q other : ℕ) (b : Bool) → nat_eq q other ≡ b →
    waiting held other ≡ cond b (waiting held q) (waiting held other)
same_at held q other true e = ap (waiting held) (sym (eqb-true q other e))
same_at held q other false e = refl

pub keeps_none : (old new : Held) (q : ℕ) (bytes : List ℕ) (why : Refused) → new ≡ old →
    Keeps old new q bytes (not_done why)
keeps_none old new q bytes why is = record {
  left = waiting old q;
  held = subst (λ (h : Held). WaitsAt old h q (waiting old q)) (sym is)
      (λ other. same_at old q other (nat_eq q other) refl);
  reads = tt;
}

pub keeps_unless : (old new : Held) (q : ℕ) (bytes : List ℕ) (why : Refused) →
    ((other : ℕ) → waiting new other ≡ waiting old other) → Keeps old new q bytes (not_done why)
keeps_unless old new q bytes why same = record {
  left = waiting old q;
  held = λ other. same other ∙ same_at old q other (nat_eq q other) refl;
  reads = tt;
}

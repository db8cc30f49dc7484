-- An explainer that was told something, and had memory for it, has explained it.
use Rattle.std.proofs.Common.{◌≡◌, ℕ, List, [], ◌∷◌, ◌++◌, length, Bool, true, false, ap, refl, sym, subst, ◌∙◌}
use Rattle.std.specs.Prelude.{Result, Ok, Err, is_err, OnOk, OnErr}
use Rattle.std.proofs.lemmas.Bool.{true≢false}
use Rattle.relay_model.specs.Idle.{history}
use Rattle.relay_reasons.specs.Seat.{seat}
use Rattle.broker_core.specs.Reached.{Reached}
use Rattle.broker_model.specs.declared.journal.Entry.{Entry}
use Rattle.broker_model.specs.Resolve.{resolve}
use Rattle.broker_core.specs.Watched.{Watched, watched_since}
use Rattle.lines_explained.specs.declared.explainer.Lines.{Lines}
use Rattle.lines_explained.specs.Explained.{Explaining, closed, explained, IsExplained, MayExplain, IsEither}
use Rattle.lines_explained.specs.Journals.{lines_since, at_rest}
use Rattle.lines_explained.proofs.LinesSince.{all_explained, since_more}

-- one step, by what was answered
pub may_explain : {T E : Type 0} (event : Watched) (before after : Explaining) (r : Result T E) →
    before.is_short ≡ false → OnOk r (after ≡ explained event before) →
    OnErr r (IsEither after.text before.text (explained event before).text) →
    (explained event before).is_short ≡ before.is_short →
    MayExplain before event (record after { is_short = is_err r })
may_explain event before after (Ok x) s ok err same =
    subst (λ (b : Bool). IsExplained b false before event (record after { is_short = false })) (sym s)
    (ap (λ (x : Explaining). record x { is_short = false }) ok
    ∙ ap (λ (b : Bool). record (explained event before) { is_short = b }) (sym (same ∙ s)))
may_explain event before after (Err x) s ok err same =
    subst (λ (b : Bool). IsExplained b true before event (record after { is_short = true })) (sym s) err

-- short once, short for ever
stays_short : (events : List Watched) (x y : Explaining) → x.is_short ≡ true → Reached MayExplain x events y → y ≡ x
stays_short [] x y s h = h
stays_short (event ∷ rest) x y s h =
    let same : h.0 ≡ x = subst (λ (b : Bool). IsExplained b h.0.is_short x event h.0) s h.1 in
    stays_short rest h.0 y (ap (λ (z : Explaining). z.is_short) same ∙ s) h.2 ∙ same

pub reached : (events : List Watched) (x y : Explaining) → x.is_short ≡ false → y.is_short ≡ false →
    Reached MayExplain x events y → y ≡ all_explained events x
reached [] x y s f h = h
reached (event ∷ rest) x y s f h =
    by h.0.is_short refl (subst (λ (b : Bool). IsExplained b h.0.is_short x event h.0) s h.1) (reached rest)
  where
    by : (b : Bool) → h.0.is_short ≡ b → IsExplained false b x event h.0 →
        ((z w : Explaining) → z.is_short ≡ false → w.is_short ≡ false → Reached MayExplain z rest w →
        w ≡ all_explained rest z) →
        y ≡ all_explained rest (explained event x)
    by true short front later =
        absurd (true≢false (sym (ap (λ (z : Explaining). z.is_short) (stays_short rest h.0 y short h.2) ∙ short) ∙ f))
    by false found is later =
        later h.0 y found f h.2 ∙ ap (all_explained rest) is

-- from rest to rest
pub rests : (which : Lines) (capacity : ℕ) (more before : List Entry) (text : List ℕ) (x y : Explaining) →
    Reached MayExplain (at_rest which before text) (watched_since capacity (length before) (more ++ before)) x →
    (x.is_short ≡ true → y ≡ x) → y ≡ closed (seat (history (resolve (more ++ before)))) x → y.is_short ≡ false →
    y ≡ at_rest which (more ++ before) (text ++ lines_since which capacity (length before) (more ++ before))
rests which capacity more before text x y h stays is whole = by x.is_short refl
  where
    by : (b : Bool) → x.is_short ≡ b →
        y ≡ at_rest which (more ++ before) (text ++ lines_since which capacity (length before) (more ++ before))
    by true s = absurd (true≢false (sym (ap (λ (z : Explaining). z.is_short) (stays s) ∙ s) ∙ whole))
    by false s =
        is
        ∙ ap (closed (seat (history (resolve (more ++ before)))))
        (reached (watched_since capacity (length before) (more ++ before)) (at_rest which before text) x refl s h)
        ∙ since_more which capacity more before text

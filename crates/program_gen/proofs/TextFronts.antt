-- What is written of a generated session is a front of its text, and all of it at the end alone.
use Rattle.std.proofs.Common.{◌≡◌, ℕ, zero, suc, ◌+◌, ◌-◌, ◌<◌, ◌≤◌, List, [], ◌++◌, length, take, drop, Option, refl, sym, ap, subst, ◌∙◌, arith, add-one, take-append-drop, append_assoc, length-append, length-take-le}
use Rattle.std.specs.Prelude.{codes, Result, Ok, Err, OnOk, OnErr}
use Rattle.std.specs.Io.KnownBytes.{Appends}
use Rattle.std.proofs.KnownBytes.{Appends-trans}
use Rattle.std.proofs.lemmas.List.{take-append-le, append-nil}
use Rattle.std.proofs.Math.Seq.{take-length}
use Rattle.std.proofs.KnownBytes.{Appends-nil}
use Rattle.broker_steps.specs.declared.step.Step.{Step}
use Rattle.session_gen.specs.Generated.{Progress, step_count}
use Rattle.program_gen.specs.Journals.{step_at}
use Rattle.program_gen.specs.Texts.{step_text, text_up_to, text_of, GrowsByPart}
use Rattle.program_gen.specs.declared.running.Run.{Run}
use Rattle.program_gen.specs.Runs.{Stands}
use Rattle.program_gen.specs.Writing.{Writes}
use Rattle.program_gen.proofs.RunGoesOn.{IsRunOf}

-- the text begins with the front
pub record IsFront (front text : List ℕ) : Type 0 where
  pub rest : List ℕ
  pub is : text ≡ front ++ rest

pub text_next : (n made : ℕ) → text_up_to n (made + 1) ≡ text_up_to n made ++ step_text (step_at n made)
unfolding text_up_to
text_next n made = rw (add-one made) refl

pub text_first : (n : ℕ) → text_up_to n 0 ≡ codes "session 1 1000000 65536\n"
unfolding text_up_to
text_first n = refl

pub text_whole : (n : ℕ) → text_of n ≡ text_up_to n step_count ++ codes "end\n"
unfolding text_of
text_whole n = refl

front_more : (a b c : List ℕ) → IsFront a b → IsFront b c → IsFront a c
front_more a b c h k = record {
  rest = h.rest ++ k.rest;
  is = k.is ∙ ap (λ l. l ++ k.rest) h.is ∙ append_assoc a h.rest k.rest;
}

front_up_to : (n made more : ℕ) → IsFront (text_up_to n made) (text_up_to n (made + more))
front_up_to n made zero = record {
  rest = [];
  is = (let same : made + 0 ≡ made = omega arith in ap (text_up_to n) same) ∙ sym (append-nil (text_up_to n made));
}
front_up_to n made (suc more) =
    let next : made + suc more ≡ made + more + 1 = omega arith in
    front_more (text_up_to n made) (text_up_to n (made + more)) (text_up_to n (made + suc more))
    (front_up_to n made more) (record {
      rest = step_text (step_at n (made + more));
      is = ap (text_up_to n) next ∙ text_next n (made + more);
    })

pub front_of_text : (n made : ℕ) → made ≤ step_count → IsFront (text_up_to n made) (text_of n)
front_of_text n made few =
    let all : made + (step_count - made) ≡ step_count = omega arith in
    front_more (text_up_to n made) (text_up_to n step_count) (text_of n)
    (subst (λ k. IsFront (text_up_to n made) (text_up_to n k)) all (front_up_to n made (step_count - made)))
    (record { rest = codes "end\n"; is = text_whole n })

-- the text goes on behind the lines of its steps
shorter : (n made : ℕ) → made ≤ step_count → length (text_up_to n made) < length (text_of n)
shorter n made few =
    let all : made + (step_count - made) ≡ step_count = omega arith in
    let f = subst (λ k. IsFront (text_up_to n made) (text_up_to n k)) all (front_up_to n made (step_count - made)) in
    let steps : length (text_up_to n step_count) ≡ length (text_up_to n made) + length f.rest =
    ap length f.is ∙ length-append (text_up_to n made) f.rest in
    let whole : length (text_of n) ≡ length (text_up_to n step_count) + 4 =
    ap length (text_whole n) ∙ length-append (text_up_to n step_count) (codes "end\n") in
    omega (arith, steps, whole)

-- what a sink gained is a front of the text, which goes on behind it
pub grows_by : (held now : Option (List ℕ)) (done text : List ℕ) → Appends held now done → IsFront done text →
    length done < length text → GrowsByPart held now text
grows_by held now done text a f less =
    let same : take (length done) text ≡ done = ap (take (length done)) f.is
    ∙ take-append-le (length done) done f.rest (omega arith) ∙ take-length done in
    (length done, less, subst (Appends held now) (sym same) a)

-- the same where behind what was written before, a page was written in part
pub grows_part : (held mid now : Option (List ℕ)) (done page text : List ℕ) → Appends held mid done →
    IsFront (done ++ page) text → GrowsByPart mid now page → GrowsByPart held now text
grows_part held mid now done page text a f h =
    let n : ℕ = h.0 in
    let below = h.1 in
    let long : length text ≡ length done + length page + length f.rest =
    ap length f.is ∙ length-append (done ++ page) f.rest ∙ ap (λ k. k + length f.rest) (length-append done page) in
    let both : Appends held now (done ++ take n page) = Appends-trans held mid now done (take n page) a h.2 in
    grows_by held now (done ++ take n page) text both (record {
      rest = drop n page ++ f.rest;
      is = f.is ∙ ap (λ l. (done ++ l) ++ f.rest) (sym (take-append-drop n page))
          ∙ ap (λ l. l ++ f.rest) (sym (append_assoc done (take n page) (drop n page)))
          ∙ append_assoc (done ++ take n page) (drop n page) f.rest;
    }) (omega (arith, long, length-append done (take n page), length-take-le n page (omega (arith, below)), below))

-- what is written of a run, with its page

pub begins_writing : (n : ℕ) (run : Run) (page : List ℕ) (held : Option (List ℕ)) →
    run.session ≡ record { number = n; made = 0 } → page ≡ codes "session 1 1000000 65536\n" → Writes run page held held
begins_writing n run page held e p = record {
  done = [];
  written = Appends-nil held;
  text = ap (λ (x : Progress). text_up_to x.number x.made) e ∙ text_first n ∙ sym p;
}

-- the line of a step goes behind the page
pub line_added : (before after : Run) (step : Step) (page next : List ℕ) (held now : Option (List ℕ)) →
    after.session ≡ record before.session { made = before.session.made + 1 } →
    step ≡ step_at before.session.number before.session.made → next ≡ page ++ step_text step →
    Writes before page held now → Writes after next held now
line_added before after step page next held now e s p w = record {
  done = w.done;
  written = w.written;
  text =
      let n : ℕ = before.session.number in
      let made : ℕ = before.session.made in
      ap (λ (x : Progress). text_up_to x.number x.made) e ∙ text_next n made
      ∙ ap (λ (t : List ℕ). t ++ step_text (step_at n made)) w.text
      ∙ append_assoc w.done page (step_text (step_at n made))
      ∙ ap (λ (x : Step). w.done ++ (page ++ step_text x)) (sym s) ∙ ap (λ (t : List ℕ). w.done ++ t) (sym p);
}

-- the page is written
pub page_written : (run : Run) (page next : List ℕ) (held mid now : Option (List ℕ)) → Writes run page held mid →
    Appends mid now page → next ≡ [] → Writes run next held now
page_written run page next held mid now w a e = record {
  done = w.done ++ page;
  written = Appends-trans held mid now w.done page w.written a;
  text = w.text ∙ sym (append-nil (w.done ++ page)) ∙ ap (λ (t : List ℕ). (w.done ++ page) ++ t) (sym e);
}

whole_front : (run : Run) (page : List ℕ) (held now : Option (List ℕ)) → run.session.made ≤ step_count →
    (w : Writes run page held now) → IsFront (w.done ++ page) (text_of run.session.number)
whole_front run page held now few w =
    subst (λ (t : List ℕ). IsFront t (text_of run.session.number)) w.text
    (front_of_text run.session.number run.session.made few)

-- what was written so far is a front of the text
pub cut_off : (run : Run) (page : List ℕ) (held now : Option (List ℕ)) → run.session.made ≤ step_count →
    Writes run page held now → GrowsByPart held now (text_of run.session.number)
cut_off run page held now few w =
    grows_by held now w.done (text_of run.session.number) w.written
    (front_more w.done (w.done ++ page) (text_of run.session.number) (record { rest = page; is = refl })
    (whole_front run page held now few w))
    (omega (arith, shorter run.session.number run.session.made few, ap length w.text, length-append w.done page))

-- so is what was written where a page is cut off
pub cut_within : (run : Run) (page : List ℕ) (held mid now : Option (List ℕ)) → run.session.made ≤ step_count →
    Writes run page held mid → GrowsByPart mid now page → GrowsByPart held now (text_of run.session.number)
cut_within run page held mid now few w h =
    grows_part held mid now w.done page (text_of run.session.number) w.written (whole_front run page held mid few w) h

-- and where that page has the line of a step
pub cut_in_step : (before after : Run) (step : Step) (page next : List ℕ) (held mid now : Option (List ℕ)) →
    Stands after → after.session ≡ record before.session { made = before.session.made + 1 } →
    step ≡ step_at before.session.number before.session.made → next ≡ page ++ step_text step →
    Writes before page held mid → GrowsByPart mid now next → GrowsByPart held now (text_of before.session.number)
cut_in_step before after step page next held mid now stands e s p w g =
    subst (λ (n : ℕ). GrowsByPart held now (text_of n)) (ap (λ (x : Progress). x.number) e)
    (cut_within after next held mid now stands.few (line_added before after step page next held mid e s p w) g)

-- behind the last step stands the end
pub ends_text : (n : ℕ) (run : Run) (page next : List ℕ) (held now : Option (List ℕ)) → IsRunOf n run →
    step_count - run.session.made ≤ 0 → next ≡ page ++ codes "end\n" → (w : Writes run page held now) →
    text_of n ≡ w.done ++ next
ends_text n run page next held now h l p w =
    let few = h.stands.few in
    let all : run.session.made ≡ step_count = omega arith in
    let whole : text_up_to n step_count ≡ w.done ++ page =
    ap (λ (k : ℕ). text_up_to n k) (sym all) ∙ ap (λ (m : ℕ). text_up_to m run.session.made) (sym h.number) ∙ w.text in
    text_whole n ∙ ap (λ (t : List ℕ). t ++ codes "end\n") whole ∙ append_assoc w.done page (codes "end\n")
    ∙ ap (λ (t : List ℕ). w.done ++ t) (sym p)

pub ends_whole : (n : ℕ) (run : Run) (page next : List ℕ) (held mid now : Option (List ℕ)) → IsRunOf n run →
    step_count - run.session.made ≤ 0 → next ≡ page ++ codes "end\n" → Writes run page held mid →
    Appends mid now next → Appends held now (text_of n)
ends_whole n run page next held mid now h l p w a =
    subst (Appends held now) (sym (ends_text n run page next held mid h l p w))
    (Appends-trans held mid now w.done next w.written a)

pub ends_part : (n : ℕ) (run : Run) (page next : List ℕ) (held mid now : Option (List ℕ)) → IsRunOf n run →
    step_count - run.session.made ≤ 0 → next ≡ page ++ codes "end\n" → Writes run page held mid →
    GrowsByPart mid now next → GrowsByPart held now (text_of n)
ends_part n run page next held mid now h l p w g =
    grows_part held mid now w.done next (text_of n) w.written
    (record { rest = []; is = ends_text n run page next held mid h l p w ∙ sym (append-nil (w.done ++ next)) }) g

-- what holds of an answer follows from what holds of it

pub on_ok : {T E : Type 0} (r : Result T E) (A B C : Type 0) → OnOk r A → OnOk r B → (A → B → C) → OnOk r C
on_ok (Ok x) A B C a b f = f a b
on_ok (Err e) A B C a b f = tt

pub on_err : {T E : Type 0} (r : Result T E) (A B : Type 0) → OnErr r A → (A → B) → OnErr r B
on_err (Ok x) A B a f = tt
on_err (Err e) A B a f = f a

pub err_any : {T E : Type 0} (r : Result T E) (A : Type 0) → A → OnErr r A
err_any (Ok x) A a = tt
err_any (Err e) A a = a

-- nothing was written, which is a front of each session
pub nothing_yet : (held : Option (List ℕ)) (n : ℕ) → GrowsByPart held held (text_of n)
nothing_yet held n = (0, (let less = shorter n 0 (omega arith) in omega (arith, less)), Appends-nil held)

-- a run of n writes the session of n
pub of_number : (n : ℕ) (run : Run) (held now : Option (List ℕ)) → IsRunOf n run →
    GrowsByPart held now (text_of run.session.number) → GrowsByPart held now (text_of n)
of_number n run held now h g = subst (λ (m : ℕ). GrowsByPart held now (text_of m)) h.number g

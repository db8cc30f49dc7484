-- Who was at rest and watched some entries has their lines, once the last is finished.
use Rattle.std.proofs.Common.{◌≡◌, ℕ, suc, ◌+◌, List, [], ◌∷◌, ◌++◌, length, Bool, true, false, not, Option, Some, None, ap, refl, sym, ◌∙◌, arith, append_assoc, length-append}
use Rattle.std.specs.Prelude.{if◌then◌else◌, ◌&&◌, ◌||◌, ◌==◌, nat_le, map}
use Rattle.std.specs.List.{flat_map}
use Rattle.std.proofs.lemmas.Bool.{le-leb, lt-leb}
use Rattle.relay_model.specs.declared.said.Told.{Told}
use Rattle.relay_model.specs.declared.said.Said.{Said}
use Rattle.relay_model.specs.declared.said.Said.TheVariants as said
use Rattle.relay_model.specs.Told.{told}
use Rattle.relay_model.specs.Idle.{history}
use Rattle.relay_reasons.specs.Seat.{seat}
use Rattle.broker_model.specs.declared.journal.Entry.{Entry}
use Rattle.broker_model.specs.declared.journal.Entry.TheVariants as entries
use Rattle.broker_model.specs.Ids.{Made}
use Rattle.broker_model.specs.Resolve.{past_of, resolve}
use Rattle.broker_model.specs.Groups.{Piece, pair_of}
use Rattle.broker_model.specs.Out.{act_at, group_at, fits, before_group, out_for}
use Rattle.broker_core.specs.Lives.{Numbered}
use Rattle.broker_core.specs.Stands.{numbered}
use Rattle.broker_core.specs.Watched.{Watched, shown, shown_by, group_put, out_put, told_of, watched, watched_since}
use Rattle.broker_core.specs.Watched.Watched.{Entered, Placed, Passed, Modified, Put}
use Rattle.lines_explained.specs.declared.explainer.Lines.{Lines}
use Rattle.lines_explained.specs.KeyWay.{key_before}
use Rattle.lines_explained.specs.Explained.{Begun, Explaining, closed, passed_since, put_since, opened, explained, peers_after, first_words, fate_before, line_text}
use Rattle.lines_explained.specs.Journals.{count_joined, is_put_for, is_put_among, was_put, is_pass, has_pass, was_passed, entry_line, lines_since, at_rest}

-- all that is watched, one thing after the other
abbrev pub all_explained : List Watched → Explaining → Explaining
all_explained [] x = x
all_explained (event ∷ rest) x = all_explained rest (explained event x)

explained_append : (a b : List Watched) (x : Explaining) →
    all_explained (a ++ b) x ≡ all_explained b (all_explained a x)
explained_append [] b x = refl
explained_append (event ∷ a) b x = explained_append a b (explained event x)

-- what is watched after an entry itself: a group that was put, or a key that the shell was told, changes what is kept
-- of the entry

abbrev has_put : List Watched → Bool
has_put [] = false
has_put (Put n q bytes tokens ∷ rest) = true
has_put (_ ∷ rest) = has_put rest

abbrev has_passed : List Watched → Bool
has_passed [] = false
has_passed (Passed n time key state ∷ rest) = true
has_passed (_ ∷ rest) = has_passed rest

abbrev IsInner : List Watched → Type 0
IsInner [] = Unit {0}
IsInner (Entered n e act log ∷ rest) = ⊥
IsInner (_ ∷ rest) = IsInner rest

abbrev put_by : Bool → Option Begun → Option Begun
put_by true o = put_since o
put_by false o = o

abbrev passed_by : Bool → Option Begun → Option Begun
passed_by true o = passed_since o
passed_by false o = o

put_again : (b c : Bool) (o : Option Begun) → passed_by b (put_by c (put_since o)) ≡ passed_by b (put_by true o)
put_again b true None = refl
put_again b true (Some x) = refl
put_again b false o = refl

passed_again : (b c : Bool) (o : Option Begun) → passed_by b (put_by c (passed_since o)) ≡ passed_by true (put_by c o)
passed_again true true None = refl
passed_again true false None = refl
passed_again false true None = refl
passed_again false false None = refl
passed_again true true (Some x) = refl
passed_again true false (Some x) = refl
passed_again false true (Some x) = refl
passed_again false false (Some x) = refl

all_inner : (events : List Watched) (x : Explaining) → IsInner events →
    all_explained events x
    ≡ record x { newest = passed_by (has_passed events) (put_by (has_put events) x.newest) }
all_inner [] x i = refl
all_inner (Entered n e act log ∷ rest) x i = absurd i
all_inner (Placed n q id a b ∷ rest) x i = all_inner rest x i
all_inner (Passed n time key state ∷ rest) x i =
    all_inner rest (record x { newest = passed_since x.newest }) i
    ∙ ap (λ (o : Option Begun). record x { newest = o }) (passed_again (has_passed rest) (has_put rest) x.newest)
all_inner (Modified n mods ∷ rest) x i = all_inner rest x i
all_inner (Put n q bytes tokens ∷ rest) x i =
    all_inner rest (record x { newest = put_since x.newest }) i
    ∙ ap (λ (o : Option Begun). record x { newest = o }) (put_again (has_passed rest) (has_put rest) x.newest)

-- of an entry

inner_append : (a b : List Watched) → IsInner a → IsInner b → IsInner (a ++ b)
inner_append [] b i j = j
inner_append (Entered n e act log ∷ a) b i j = absurd i
inner_append (Placed n q id x y ∷ a) b i j = inner_append a b i j
inner_append (Passed n time key state ∷ a) b i j = inner_append a b i j
inner_append (Modified n mods ∷ a) b i j = inner_append a b i j
inner_append (Put n q bytes tokens ∷ a) b i j = inner_append a b i j

put_append : (a b : List Watched) → has_put (a ++ b) ≡ (has_put a || has_put b)
put_append [] b = refl
put_append (Entered n e act log ∷ a) b = put_append a b
put_append (Placed n q id x y ∷ a) b = put_append a b
put_append (Passed n time key state ∷ a) b = put_append a b
put_append (Modified n mods ∷ a) b = put_append a b
put_append (Put n q bytes tokens ∷ a) b = refl

passed_append : (a b : List Watched) → has_passed (a ++ b) ≡ (has_passed a || has_passed b)
passed_append [] b = refl
passed_append (Entered n e act log ∷ a) b = passed_append a b
passed_append (Placed n q id x y ∷ a) b = passed_append a b
passed_append (Passed n time key state ∷ a) b = refl
passed_append (Modified n mods ∷ a) b = passed_append a b
passed_append (Put n q bytes tokens ∷ a) b = passed_append a b

-- such a list, and whether the shell was told a key in it, and a group was put
record Inner (events : List Watched) (p b : Bool) : Type 0 where
  inner : IsInner events
  passes : has_passed events ≡ p
  puts : has_put events ≡ b

no_events : Inner [] false false
no_events = record { inner = tt; passes = refl; puts = refl }

both : (a b : List Watched) (o p x y : Bool) → Inner a o x → Inner b p y → Inner (a ++ b) (o || p) (x || y)
both a b o p x y i j = record {
  inner = inner_append a b i.inner j.inner;
  passes = passed_append a b ∙ ap (λ (q : Bool). q || has_passed b) i.passes
      ∙ ap (λ (q : Bool). o || q) j.passes;
  puts = put_append a b ∙ ap (λ (q : Bool). q || has_put b) i.puts ∙ ap (λ (q : Bool). x || q) j.puts;
}

one_shown : (n : ℕ) (made : List Made) (peers : List Numbered) (s : Said) →
    Inner (shown n made peers s) (is_pass s) false
one_shown n made peers (said.Placed popup x y) = record { inner = tt; passes = refl; puts = refl }
one_shown n made peers (said.Pass time key state) = record { inner = tt; passes = refl; puts = refl }
one_shown n made peers (said.VMods mods) = record { inner = tt; passes = refl; puts = refl }
one_shown n made peers _ = no_events

all_shown : (n : ℕ) (made : List Made) (peers : List Numbered) (ts : List Told) →
    Inner (shown_by n made peers ts) (has_pass ts) false
all_shown n made peers [] = no_events
all_shown n made peers (t ∷ ts) =
    both (shown n made peers t.event) (shown_by n made peers ts) (is_pass t.event) (has_pass ts) false false
    (one_shown n made peers t.event) (all_shown n made peers ts)

one_put : (n q : ℕ) (group : Piece) → Inner (group_put n q group) false (not (length group.bytes == 0))
one_put n q group = by (length group.bytes == 0)
  where
    by : (b : Bool) →
        Inner (if b then [] else Put n q group.bytes (map pair_of group.tokens) ∷ []) false (not b)
    by true = no_events
    by false = record { inner = tt; passes = refl; puts = refl }

out_puts : (capacity : ℕ) (e : Entry) (older : List Entry) (p : Numbered) →
    Inner (out_put capacity e older p) false (is_put_for capacity e older p)
out_puts capacity e older p =
    by (fits capacity (group_at e older p.peer.label)
    (before_group e older p.peer.label (out_for capacity older p.peer.label)))
  where
    group : Piece
    group = group_at e older p.peer.label

    by : (b : Bool) →
        Inner (if b then group_put (length older + 1) p.number group else []) false (b && not (length group.bytes == 0))
    by true = one_put (length older + 1) p.number group
    by false = no_events

all_puts : (capacity : ℕ) (e : Entry) (older : List Entry) (ps : List Numbered) →
    Inner (flat_map (out_put capacity e older) ps) false (is_put_among capacity e older ps)
all_puts capacity e older [] = no_events
all_puts capacity e older (p ∷ ps) =
    both (out_put capacity e older p) (flat_map (out_put capacity e older) ps) false false
    (is_put_for capacity e older p) (is_put_among capacity e older ps) (out_puts capacity e older p)
    (all_puts capacity e older ps)

or_none : (b : Bool) → (b || false) ≡ b
or_none true = refl
or_none false = refl

told_inner : (capacity : ℕ) (e : Entry) (older : List Entry) →
    Inner (told_of capacity e older) (was_passed e older || false) (was_put capacity e older)
told_inner capacity e older =
    let past = past_of (e ∷ older) in
    let peers = numbered 1 past.joined in
    let ts = told (act_at e older) (resolve older) in
    both (shown_by (length older + 1) past.made peers ts) (flat_map (out_put capacity e older) peers) (has_pass ts)
    false false (was_put capacity e older) (all_shown (length older + 1) past.made peers ts)
    (all_puts capacity e older peers)

told_puts : (capacity : ℕ) (e : Entry) (older : List Entry) →
    Inner (told_of capacity e older) (was_passed e older) (was_put capacity e older)
told_puts capacity e older =
    let i = told_inner capacity e older in
    record { inner = i.inner; passes = i.passes ∙ or_none (was_passed e older); puts = i.puts }

-- how many joined

joined_more : (e : Entry) (older : List Entry) → peers_after e (count_joined older) ≡ count_joined (e ∷ older)
joined_more (entries.Join role) older =
    let joined = (past_of older).joined in
    let more = length-append joined (record { label = length older + 1; role = role } ∷ []) in
    omega (arith, more)
joined_more (entries.Message q id opcode body) older = refl
joined_more (entries.Tokens q tokens) older = refl
joined_more (entries.BadSize q head) older = refl
joined_more (entries.End q cause) older = refl
joined_more (entries.Shell step) older = refl
joined_more (entries.Took q bytes) older = refl

-- one entry more

begun_since : (p b : Bool) (x : Begun) → x.was_passed ≡ false → x.was_put ≡ false →
    passed_by p (put_by b (Some x)) ≡ Some (record x { was_passed = p; was_put = b })
begun_since true true x d e = refl
begun_since true false x d e = ap (λ (q : Bool). Some (record x { was_passed = true; was_put = q })) e
begun_since false true x d e = ap (λ (q : Bool). Some (record x { was_passed = q; was_put = true })) d
begun_since false false x d e =
    ap (λ (q : Bool). Some (record x { was_passed = x.was_passed; was_put = q })) e
    ∙ ap (λ (q : Bool). Some (record x { was_passed = q; was_put = false })) d

-- finished, the line of an entry that was begun with so many peers
finished : Lines → ℕ → Entry → List Entry → List ℕ → ℕ → Explaining
finished which capacity e older text peers =
    record {
      lines = which;
      text = text
          ++ line_text which (seat (history (resolve (e ∷ older))))
          (Some (record {
            line = first_words (length older + 1) peers e (act_at e older) (resolve older);
            before = seat (history (resolve older));
            fate = fate_before (act_at e older) (resolve older);
            sent = key_before (act_at e older) (resolve older);
            was_passed = was_passed e older;
            was_put = was_put capacity e older;
          }));
      newest = None;
      peers = peers;
      is_short = false;
    }

entry_more : (which : Lines) (capacity : ℕ) (e : Entry) (older : List Entry) (text : List ℕ) (x : Explaining) →
    closed (seat (history (resolve older))) x ≡ at_rest which older text →
    closed (seat (history (resolve (e ∷ older)))) (all_explained (watched capacity e older) x)
    ≡ at_rest which (e ∷ older) (text ++ entry_line which capacity e older)
unfolding finished
entry_more which capacity e older text x rest =
    let here = seat (history (resolve (e ∷ older))) in
    let n = length older + 1 in
    let act = act_at e older in
    let log = resolve older in
    let inner = told_puts capacity e older in
    let start : Explaining = opened n e act log (at_rest which older text) in
    let line : Begun = record {
      line = first_words n (peers_after e (count_joined older)) e act log;
      before = seat (history log);
      fate = fate_before act log;
      sent = key_before act log;
      was_passed = false;
      was_put = false;
    } in
    ap (λ (y : Explaining). closed here (all_explained (told_of capacity e older) (opened n e act log y))) rest
    ∙ ap (closed here) (all_inner (told_of capacity e older) start inner.inner)
    ∙ ap (λ (p : Bool). closed here (record start
    { newest = passed_by p (put_by (has_put (told_of capacity e older)) (Some line)) })) inner.passes
    ∙ ap (λ (b : Bool). closed here (record start { newest = passed_by (was_passed e older) (put_by b (Some line)) }))
    inner.puts
    ∙ ap (λ (o : Option Begun). closed here (record start { newest = o }))
    (begun_since (was_passed e older) (was_put capacity e older) line refl refl)
    ∙ ap (finished which capacity e older text) (joined_more e older)

-- all entries

no_watched : (capacity : ℕ) (journal : List Entry) → watched_since capacity (length journal) journal ≡ []
no_watched capacity [] = refl
no_watched capacity (e ∷ older) =
    ap (λ (b : Bool). (if b then watched_since capacity (suc (length older)) older ++ watched capacity e older else []))
    (lt-leb (suc (length older)) (length older) (omega arith))

pub no_lines : (which : Lines) (capacity : ℕ) (journal : List Entry) →
    lines_since which capacity (length journal) journal ≡ []
no_lines which capacity [] = refl
no_lines which capacity (e ∷ older) =
    ap (λ (b : Bool). (if b then lines_since which capacity (suc (length older)) older ++
    entry_line which capacity e older else []))
    (lt-leb (suc (length older)) (length older) (omega arith))

pub since_more : (which : Lines) (capacity : ℕ) (more before : List Entry) (text : List ℕ) →
    closed (seat (history (resolve (more ++ before))))
    (all_explained (watched_since capacity (length before) (more ++ before)) (at_rest which before text))
    ≡ at_rest which (more ++ before) (text ++ lines_since which capacity (length before) (more ++ before))
since_more which capacity [] before text =
    ap (λ (events : List Watched). closed (seat (history (resolve before)))
    (all_explained events (at_rest which before text))) (no_watched capacity before)
    ∙ ap (λ (l : List ℕ). at_rest which before (text ++ l)) (sym (no_lines which capacity before))
since_more which capacity (e ∷ more) before text =
    let older : List Entry = more ++ before in
    let k : ℕ = length before in
    let lines : List ℕ = lines_since which capacity k older in
    let long = length-append more before in
    let here : nat_le k (length older) ≡ true = le-leb k (length older) (omega (arith, long)) in
    let x : Explaining = all_explained (watched_since capacity k older) (at_rest which before text) in
    ap (λ (b : Bool). closed (seat (history (resolve (e ∷ older))))
    (all_explained (if b then watched_since capacity k older ++ watched capacity e older else [])
    (at_rest which before text))) here
    ∙ ap (closed (seat (history (resolve (e ∷ older)))))
    (explained_append (watched_since capacity k older) (watched capacity e older) (at_rest which before text))
    ∙ entry_more which capacity e older (text ++ lines) x (since_more which capacity more before text)
    ∙ ap (at_rest which (e ∷ older)) (append_assoc text lines (entry_line which capacity e older))
    ∙ ap (λ (b : Bool). at_rest which (e ∷ older)
    (text ++ (if b then lines ++ entry_line which capacity e older else []))) (sym here)

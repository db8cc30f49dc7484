-- Where memory is found, what is printed of the entries that are watched is their text.
use Rattle.std.proofs.Common.{◌≡◌, ℕ, ◌+◌, List, [], ◌∷◌, ◌++◌, length, map, Bool, true, false, ap, ap₂, refl, sym, ◌∙◌, append_assoc}
use Rattle.std.specs.Prelude.{if◌then◌else◌, nat_le, ◌==◌}
use Rattle.std.specs.List.{AllByRecursion, flat_map}
use Rattle.std.proofs.lemmas.Grind.{flat_map-append}
use Rattle.std.proofs.lemmas.List.{append-nil}
use Rattle.relay_model.specs.declared.said.Told.{Told}
use Rattle.relay_model.specs.declared.said.Said.{Said}
use Rattle.relay_model.specs.declared.said.Said.TheVariants as said
use Rattle.relay_model.specs.Told.{told}
use Rattle.lines_transcript.specs.Transcript.{out_line, placed_line, pass_line, vmods_line}
use Rattle.broker_model.specs.declared.journal.Entry.{Entry}
use Rattle.broker_model.specs.Ids.{Made}
use Rattle.broker_model.specs.Resolve.{past_of, resolve}
use Rattle.broker_model.specs.Groups.{Piece, pair_of}
use Rattle.broker_model.specs.Out.{act_at, fits, group_at, before_group, out_for}
use Rattle.broker_core.specs.Lives.{Numbered}
use Rattle.broker_core.specs.Stands.{numbered}
use Rattle.broker_core.specs.Watched.{Watched, shown, shown_by, group_put, out_put, told_of, watched, watched_since}
use Rattle.broker_core.specs.Watched.Watched.{Entered, Placed, Passed, Modified, Put}
use Rattle.lines_transcript.specs.Transcribed.{with_feed, head_text, group_text, out_text, shell_text, entry_text, text_since}
use Rattle.lines_transcript.specs.Printed.{Printing, printed}

-- all that is watched, one thing after the other
abbrev pub all_printed : List Watched → Printing → Printing
all_printed [] p = p
all_printed (event ∷ rest) p = all_printed rest (printed event p)

-- its text, with what the shell was told of the newest entry
abbrev pub full : Printing → List ℕ
full p = p.text ++ p.shell

pub printed_append : (xs ys : List Watched) (p : Printing) →
    all_printed (xs ++ ys) p ≡ all_printed ys (all_printed xs p)
printed_append [] ys p = refl
printed_append (x ∷ xs) ys p = printed_append xs ys (printed x p)

-- what is printed of an entry behind the entry itself

-- the lines of groups, and those that the shell is told
abbrev group_lines : Watched → List ℕ
group_lines (Put n q bytes tokens) = with_feed (out_line n q bytes tokens)
group_lines _ = []

abbrev shell_lines : Watched → List ℕ
shell_lines (Placed n q id x y) = with_feed (placed_line n q id x y)
shell_lines (Passed n time key state) = with_feed (pass_line n time key state)
shell_lines (Modified n mods) = with_feed (vmods_line n mods)
shell_lines _ = []

abbrev IsInner : Watched → Type 0
IsInner (Entered n e act log) = ⊥
IsInner _ = Unit {0}

abbrev with_lines : List ℕ → List ℕ → Printing → Printing
with_lines groups shell p = record p { text = p.text ++ groups; shell = p.shell ++ shell }

one_inner : (event : Watched) (p : Printing) → IsInner event →
    printed event p ≡ with_lines (group_lines event) (shell_lines event) p
one_inner (Entered n e act log) p i = absurd i
one_inner (Placed n q id x y) p i =
    ap (λ (t : List ℕ). record p { text = t; shell = p.shell ++ with_feed (placed_line n q id x y) })
    (sym (append-nil p.text))
one_inner (Passed n time key state) p i =
    ap (λ (t : List ℕ). record p { text = t; shell = p.shell ++ with_feed (pass_line n time key state) })
    (sym (append-nil p.text))
one_inner (Modified n mods) p i =
    ap (λ (t : List ℕ). record p { text = t; shell = p.shell ++ with_feed (vmods_line n mods) })
    (sym (append-nil p.text))
one_inner (Put n q bytes tokens) p i =
    ap (λ (s : List ℕ). record p { text = p.text ++ with_feed (out_line n q bytes tokens); shell = s })
    (sym (append-nil p.shell))

lines_twice : (a b c d : List ℕ) (p : Printing) → with_lines c d (with_lines a b p) ≡ with_lines (a ++ c) (b ++ d) p
lines_twice a b c d p =
    ap₂ (λ (t s : List ℕ). record p { text = t; shell = s }) (append_assoc p.text a c) (append_assoc p.shell b d)

all_inner : (events : List Watched) (p : Printing) → AllByRecursion IsInner events →
    all_printed events p ≡ with_lines (flat_map group_lines events) (flat_map shell_lines events) p
all_inner [] p i =
    ap₂ (λ (t s : List ℕ). record p { text = t; shell = s }) (sym (append-nil p.text)) (sym (append-nil p.shell))
all_inner (event ∷ rest) p i =
    ap (all_printed rest) (one_inner event p i.0)
    ∙ all_inner rest (with_lines (group_lines event) (shell_lines event) p) i.1
    ∙ lines_twice (group_lines event) (shell_lines event) (flat_map group_lines rest) (flat_map shell_lines rest) p

-- events that are printed as these lines
record Prints (groups shell : List ℕ) (events : List Watched) : Type 0 where
  inner : AllByRecursion IsInner events
  groups_are : flat_map group_lines events ≡ groups
  shell_is : flat_map shell_lines events ≡ shell

prints_none : Prints [] [] []
prints_none = record { inner = tt; groups_are = refl; shell_is = refl }

inner_both : (xs ys : List Watched) → AllByRecursion IsInner xs → AllByRecursion IsInner ys →
    AllByRecursion IsInner (xs ++ ys)
inner_both [] ys h k = k
inner_both (x ∷ xs) ys h k = (h.0, inner_both xs ys h.1 k)

prints_both : (a b c d : List ℕ) (xs ys : List Watched) → Prints a b xs → Prints c d ys →
    Prints (a ++ c) (b ++ d) (xs ++ ys)
prints_both a b c d xs ys h k = record {
  inner = inner_both xs ys h.inner k.inner;
  groups_are = flat_map-append group_lines xs ys ∙ ap₂ (λ (l m : List ℕ). l ++ m) h.groups_are k.groups_are;
  shell_is = flat_map-append shell_lines xs ys ∙ ap₂ (λ (l m : List ℕ). l ++ m) h.shell_is k.shell_is;
}

-- what the shell is told
shown_prints : (n : ℕ) (made : List Made) (peers : List Numbered) (event : Said) →
    Prints [] (shell_text n made peers event) (shown n made peers event)
shown_prints n made peers (said.Placed popup x y) =
    record { inner = (tt, tt); groups_are = refl; shell_is = append-nil _ }
shown_prints n made peers (said.Pass time key state) =
    record { inner = (tt, tt); groups_are = refl; shell_is = append-nil _ }
shown_prints n made peers (said.VMods mods) = record { inner = (tt, tt); groups_are = refl; shell_is = append-nil _ }
shown_prints n made peers _ = prints_none

all_shown_print : (n : ℕ) (made : List Made) (peers : List Numbered) (ts : List Told) →
    Prints [] (flat_map (λ (t : Told). shell_text n made peers t.event) ts) (shown_by n made peers ts)
all_shown_print n made peers [] = prints_none
all_shown_print n made peers (t ∷ ts) =
    prints_both [] (shell_text n made peers t.event) [] (flat_map (λ (x : Told). shell_text n made peers x.event) ts)
    (shown n made peers t.event) (shown_by n made peers ts) (shown_prints n made peers t.event)
    (all_shown_print n made peers ts)

-- what is put for a peer
put_prints : (n q : ℕ) (group : Piece) → Prints (group_text n q group) [] (group_put n q group)
put_prints n q group = by_length (length group.bytes == 0)
  where
    by_length : (b : Bool) →
        Prints (if b then [] else with_feed (out_line n q group.bytes (map pair_of group.tokens))) []
        (if b then [] else Put n q group.bytes (map pair_of group.tokens) ∷ [])
    by_length true = prints_none
    by_length false = record { inner = (tt, tt); groups_are = append-nil _; shell_is = refl }

out_prints : (capacity : ℕ) (e : Entry) (older : List Entry) (p : Numbered) →
    Prints (out_text capacity e older p) [] (out_put capacity e older p)
out_prints capacity e older p =
    by_room (fits capacity (group_at e older p.peer.label)
    (before_group e older p.peer.label (out_for capacity older p.peer.label)))
  where
    n : ℕ
    n = length older + 1

    group : Piece
    group = group_at e older p.peer.label

    by_room : (b : Bool) →
        Prints (if b then group_text n p.number group else []) [] (if b then group_put n p.number group else [])
    by_room true = put_prints n p.number group
    by_room false = prints_none

all_out_print : (capacity : ℕ) (e : Entry) (older : List Entry) (ps : List Numbered) →
    Prints (flat_map (out_text capacity e older) ps) [] (flat_map (out_put capacity e older) ps)
all_out_print capacity e older [] = prints_none
all_out_print capacity e older (p ∷ ps) =
    prints_both (out_text capacity e older p) [] (flat_map (out_text capacity e older) ps) []
    (out_put capacity e older p)
    (flat_map (out_put capacity e older) ps) (out_prints capacity e older p) (all_out_print capacity e older ps)

-- an entry

-- what the shell is told of an entry, and what is put for all that joined
abbrev shell_of : Entry → List Entry → List ℕ
shell_of e older =
    flat_map (λ (t : Told). shell_text (length older + 1) (past_of (e ∷ older)).made
    (numbered 1 (past_of (e ∷ older)).joined) t.event)
    (told (act_at e older) (resolve older))

abbrev groups_of : ℕ → Entry → List Entry → List ℕ
groups_of capacity e older = flat_map (out_text capacity e older) (numbered 1 (past_of (e ∷ older)).joined)

told_prints : (capacity : ℕ) (e : Entry) (older : List Entry) →
    Prints (groups_of capacity e older) (shell_of e older) (told_of capacity e older)
told_prints capacity e older =
    let past = past_of (e ∷ older) in
    let peers = numbered 1 past.joined in
    let ts = told (act_at e older) (resolve older) in
    let both = prints_both [] (shell_of e older) (groups_of capacity e older) []
    (shown_by (length older + 1) past.made peers ts)
    (flat_map (out_put capacity e older) peers) (all_shown_print (length older + 1) past.made peers ts)
    (all_out_print capacity e older peers) in
    record {
      inner = both.inner;
      groups_are = both.groups_are;
      shell_is = both.shell_is
          ∙ append-nil (shell_of e older);
    }

entry_full : (head groups shell : List ℕ) (p : Printing) →
    (p.text ++ (p.shell ++ head)) ++ (groups ++ shell) ≡ full p ++ (head ++ (groups ++ shell))
entry_full head groups shell p =
    ap (λ (l : List ℕ). l ++ (groups ++ shell)) (sym (append_assoc p.text p.shell head))
    ∙ append_assoc (full p) head (groups ++ shell)

pub entry_printed : (capacity : ℕ) (e : Entry) (older : List Entry) (p : Printing) →
    full (all_printed (watched capacity e older) p) ≡ full p ++ entry_text capacity e older
entry_printed capacity e older p =
    let begun : Printing = printed (Entered (length older + 1) e (act_at e older) (resolve older)) p in
    let prints = told_prints capacity e older in
    let head = head_text (length older + 1) e in
    ap full
    (all_inner (told_of capacity e older) begun prints.inner
    ∙ ap₂ (λ (groups shell : List ℕ). with_lines groups shell begun) prints.groups_are prints.shell_is)
    ∙ append_assoc begun.text (groups_of capacity e older) (shell_of e older)
    ∙ entry_full head (groups_of capacity e older) (shell_of e older) p

-- all entries since
pub since_printed : (capacity k : ℕ) (journal : List Entry) (p : Printing) →
    full (all_printed (watched_since capacity k journal) p) ≡ full p ++ text_since capacity k journal
since_printed capacity k [] p = sym (append-nil (full p))
since_printed capacity k (e ∷ older) p = by_place (nat_le k (length older)) (since_printed capacity k older p)
  where
    by_place : (b : Bool) →
        full (all_printed (watched_since capacity k older) p) ≡ full p ++ text_since capacity k older →
        full (all_printed (if b then watched_since capacity k older ++ watched capacity e older else []) p)
        ≡ full p ++ (if b then text_since capacity k older ++ entry_text capacity e older else [])
    by_place true before =
        ap full (printed_append (watched_since capacity k older) (watched capacity e older) p)
        ∙ entry_printed capacity e older (all_printed (watched_since capacity k older) p)
        ∙ ap (λ (l : List ℕ). l ++ entry_text capacity e older) before
        ∙ append_assoc (full p) (text_since capacity k older) (entry_text capacity e older)
    by_place false before = sym (append-nil (full p))

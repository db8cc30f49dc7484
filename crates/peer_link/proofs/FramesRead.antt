-- The reading of a peer's link, frame by frame
use Rattle.std.proofs.Common.{◌≡◌, ◌≢◌, ◌≤◌, ℕ, List, [], ◌∷◌, ◌++◌, map, take, Option, Some, refl, sym, ap, ap₂, ◌∙◌, subst, ◌⊎◌, inl, inr, append_assoc, append-nil, arith}
use Rattle.std.specs.Prelude.{Result, Ok, Err}
use Rattle.std.proofs.lemmas.List.{map-append}
use Rattle.relay_model.specs.declared.act.EndCause.{EndCause}
use Rattle.relay_model.specs.declared.act.EndCause.TheVariants.{Gone}
use Rattle.broker_steps.specs.declared.limits.Limits.{Limits}
use Rattle.wio_core.specs.Lines.{TookFrom}
use Rattle.wl_wire.specs.Messages.{joined, behind}
use Rattle.broker_model.specs.declared.journal.Entry.{Entry}
use Rattle.broker_model.specs.declared.journal.Entry.TheVariants as entries
use Rattle.broker_model.specs.declared.journal.Kept.{Kept}
use Rattle.broker_core.specs.Stands.{end_of}
use Rattle.desc_frame.specs.declared.Got.{Got}
use Rattle.desc_frame.specs.declared.Got.TheVariants as got
use Rattle.desc_frame.specs.Frames.{Frame, frame, IsFrame, spelling}
use Rattle.desc_frame.specs.Answers.{Gave, Stops, IsFrameOf}
use Rattle.hub_lock.specs.Histories.{History}
use Rattle.hub_lock.specs.Passes.{PeerPass}
use Rattle.hub_lock.specs.Calls.{pass_having_seen}
use Rattle.peer_link.specs.declared.ends.ReadEnd.{ReadEnd}
use Rattle.peer_link.specs.declared.ends.ReadEnd.TheVariants as ends
use Rattle.peer_link.specs.Made.{entries_by, journal_of, SawMore, IsAtLimit, HasSeenFull}
use Rattle.peer_link.specs.LinkSteps.{frame_steps, steps_behind, link_steps, AreFrames, spelled, HoldFrames}
use Rattle.peer_link.specs.Submits.{WhyNot, MadeFirst, IsGoneRefusal}
use Rattle.peer_link.specs.ReadsPeer.{StopsAt, StopsBy, MadeAll, MadeBefore, BeganNothing, EndsAs, gone_after, ReadsPeer}
use Rattle.peer_link.specs.ReadsFrame.{got_of, NoFrame, EndedAfter, OneFrame, MakesFrame, ReadsFrame, ReadsLink}
use Rattle.peer_link.proofs.ShellServed.{joined-more}
use Rattle.peer_link.proofs.MessagesMade.{same-peer}
use Rattle.peer_link.proofs.AtLimits.{at-limit-later}

pub took-gave : (g g' l l' : Option (List ℕ)) (bytes : List ℕ) → Gave g g' l l' bytes → TookFrom g g' l l' bytes
took-gave g g' l l' bytes k = record { given = k.given; left = k.left }

-- the bytes that wait behind frames, and one frame more

abbrev pub waiting_behind : (waiting : List ℕ) → List Frame → List ℕ
waiting_behind waiting [] = waiting
waiting_behind waiting (f ∷ fs) = waiting_behind (behind (waiting ++ f.bytes)) fs

steps-more : (q : ℕ) (waiting : List ℕ) (fs : List Frame) (f : Frame)
    → steps_behind q waiting (fs ++ f ∷ []) ≡ steps_behind q waiting fs ++ frame_steps q (waiting_behind waiting fs) f
steps-more q waiting [] f = append-nil (frame_steps q waiting f)
steps-more q waiting (x ∷ fs) f =
    ap (λ (es : List Entry). frame_steps q waiting x ++ es) (steps-more q (behind (waiting ++ x.bytes)) fs f)
    ∙ sym (append_assoc (frame_steps q waiting x) (steps_behind q (behind (waiting ++ x.bytes)) fs)
    (frame_steps q (waiting_behind waiting (x ∷ fs)) f))

waiting-more : (waiting : List ℕ) (fs : List Frame) (f : Frame)
    → waiting_behind waiting (fs ++ f ∷ []) ≡ behind (waiting_behind waiting fs ++ f.bytes)
waiting-more waiting [] f = refl
waiting-more waiting (x ∷ fs) f = waiting-more (behind (waiting ++ x.bytes)) fs f

frames-more : (fs : List Frame) (f : Frame) → AreFrames fs → IsFrame f → AreFrames (fs ++ f ∷ [])
frames-more [] f a i = (i, tt)
frames-more (x ∷ fs) f a i = (a.0, frames-more fs f a.1 i)

spelled-more : (fs : List Frame) (f : Frame) → spelled (fs ++ f ∷ []) ≡ spelled fs ++ spelling f
spelled-more fs f = ap joined (map-append spelling fs (f ∷ [])) ∙ joined-more (map spelling fs) (spelling f)

-- a link on its way: the frames so far were read, and all their steps made
pub record Reading (q : ℕ) (pass : PeerPass) (read waiting : List ℕ) : Type 0 where
  pub frames : List Frame
  pub each : AreFrames frames
  pub is : read ≡ spelled frames
  pub made : entries_by pass.seat ≡ link_steps q frames
  pub waits : waiting ≡ waiting_behind [] frames

pub reading-begins : (q : ℕ) (pass : PeerPass) → entries_by pass.seat ≡ [] → Reading q pass [] []
reading-begins q pass none = record { frames = []; each = tt; is = refl; made = none; waits = refl }

pub reading-goes : (q : ℕ) (a b : PeerPass) (read waiting waiting' taken : List ℕ) (f : Frame) → a.peer ≡ q →
    Reading q a read waiting
    → OneFrame taken f → entries_by b.seat ≡ entries_by a.seat ++ frame_steps a.peer waiting f →
    waiting' ≡ behind (waiting ++ f.bytes)
    → Reading q b (read ++ taken) waiting'
reading-goes q a b read waiting waiting' taken f peer r o made is = record {
  frames = r.frames ++ f ∷ [];
  each = frames-more r.frames f r.each o.is;
  is = ap₂ (λ (x y : List ℕ). x ++ y) r.is o.spelled ∙ sym (spelled-more r.frames f);
  made = made ∙ ap (λ n. entries_by a.seat ++ frame_steps n waiting f) peer
      ∙ ap₂ (λ (es : List Entry) (w : List ℕ). es ++ frame_steps q w f) r.made r.waits
      ∙ sym (steps-more q [] r.frames f);
  waits = is ∙ ap (λ (w : List ℕ). behind (w ++ f.bytes)) r.waits ∙ sym (waiting-more [] r.frames f);
}

-- the frame that was read behind those

held-more : (fs : List Frame) (f : Frame) (read taken : List ℕ) → AreFrames fs → read ≡ spelled fs → OneFrame taken f
    → HoldFrames (read ++ taken) (fs ++ f ∷ []) []
held-more fs f read taken each is o = record {
  each = frames-more fs f each o.is;
  is = ap₂ (λ (x y : List ℕ). x ++ y) is o.spelled ∙ sym (spelled-more fs f)
      ∙ sym (append-nil (spelled (fs ++ f ∷ [])));
}

stops-at : (limits : Limits) (q : ℕ) (a b : PeerPass) (read waiting : List ℕ) (f : Frame) (end : ReadEnd)
    (r : Reading q a read waiting)
    → (m : MadeFirst limits a b (frame_steps q waiting f) end) →
    StopsAt q (r.frames ++ f ∷ []) [] (entries_by b.seat) m.e
stops-at limits q a b read waiting f end r m =
    let steps : link_steps q (r.frames ++ f ∷ []) ≡ link_steps q r.frames ++ (m.made ++ m.e ∷ m.more) =
    steps-more q [] r.frames f
    ∙ ap (λ (w : List ℕ). link_steps q r.frames ++ frame_steps q w f) (sym r.waits)
    ∙ ap (λ (es : List Entry). link_steps q r.frames ++ es) m.steps_are in
    let made : entries_by b.seat ≡ link_steps q r.frames ++ m.made =
    m.entries ∙ ap (λ (es : List Entry). es ++ m.made) r.made in record {
      before = r.frames;
      last = f;
      frames_are = refl;
      of_last = m.made;
      made_is = made;
      more = m.more;
      given = steps ∙ sym (append_assoc (link_steps q r.frames) m.made (m.e ∷ m.more))
          ∙ ap (λ (es : List Entry). es ++ m.e ∷ m.more) (sym made);
      nothing_past = refl;
    }

ends-first : (limits : Limits) (q : ℕ) (b : PeerPass) (frames : List Frame) (left : Option (List ℕ))
    (faults : ℕ) (e : Entry) (end : ReadEnd)
    → b.peer ≡ q → (end ≢ ends.ReadFault → faults ≡ 0) → StopsAt q frames [] (entries_by b.seat) e →
    WhyNot limits b e end
    → EndsAs limits b frames [] left faults (entries_by b.seat) end
ends-first limits q b frames left faults e (ends.Ended cause) same quiet s why = (
  why,
  inl (quiet (λ x. cc), inr (inr (e, subst (λ q. StopsAt q frames [] (entries_by b.seat) e) (sym same) s))),
)
ends-first limits q b frames left faults e (ends.JournalFull kept) same quiet s why = (
  e,
  subst (λ q. StopsAt q frames [] (entries_by b.seat) e) (sym same) s,
  record {
    earlier = b.seat.seen;
    later = [];
    is = sym (append-nil b.seat.seen);
    full = why.0;
    at_limit = why.1;
  },
)
ends-first limits q b frames left faults e ends.NoMemory same quiet s why =
    inr (e, subst (λ q. StopsAt q frames [] (entries_by b.seat) e) (sym same) s)
ends-first limits q b frames left faults e ends.Closed same quiet s why = absurd why
ends-first limits q b frames left faults e (ends.Torn n) same quiet s why = absurd why
ends-first limits q b frames left faults e (ends.BadFrame n t) same quiet s why = absurd why
ends-first limits q b frames left faults e ends.ReadFault same quiet s why = absurd why

-- no frame came

ends-none : (limits : Limits) (q : ℕ) (b : PeerPass) (frames : List Frame) (rest : List ℕ) (left : Option (List ℕ))
    (faults : ℕ) (end : ReadEnd) (why : Got)
    → b.peer ≡ q → entries_by b.seat ≡ link_steps q frames → got_of end ≡ Some why → Stops why rest left
    → EndsAs limits b frames rest left faults (entries_by b.seat) end
ends-none limits q b frames rest left faults end why same made is stops =
    by end is (subst (λ q. entries_by b.seat ≡ link_steps q frames) (sym same) made)
  where
    stopped : (g : Got) → Some g ≡ Some why → entries_by b.seat ≡ link_steps b.peer frames →
        StopsBy b.peer frames rest left (entries_by b.seat) g
    stopped g e made =
        record { all = made; stops = subst (λ w. Stops w rest left) (let same : g ≡ why = cc in sym same) stops }

    by : (end : ReadEnd) → got_of end ≡ Some why → entries_by b.seat ≡ link_steps b.peer frames →
        EndsAs limits b frames rest left faults (entries_by b.seat) end
    by ends.Closed e made = stopped got.End e made
    by (ends.Torn n) e made = stopped (got.Torn n) e made
    by (ends.BadFrame n t) e made = stopped (got.BadFrame n t) e made
    by ends.ReadFault e made = stopped got.ReadFault e made
    by (ends.Ended cause) e made = absurd (cc)
    by (ends.JournalFull kept) e made = absurd (cc)
    by ends.NoMemory e made = absurd (cc)

-- the link's reading ends with a frame, or with none
pub reading-ends : (limits : Limits) (q : ℕ) (a b : PeerPass) (read waiting waiting' taken : List ℕ)
    (left : Option (List ℕ)) (faults : ℕ) (end : ReadEnd)
    → a.peer ≡ q → b ≡ pass_having_seen a b.seat.seen → (end ≢ ends.ReadFault → faults ≡ 0) → faults ≤ 1
    → Reading q a read waiting
    → ReadsFrame limits a b waiting waiting' taken left (Err end) → ReadsLink limits b (read ++ taken) left faults end
reading-ends limits q a b read waiting waiting' taken left faults end mine is quiet few r k =
    by (subst (λ p.
    (NoFrame a b taken left end ⊎ (f : Frame) × OneFrame taken f
    × (MadeFirst limits a b (frame_steps p waiting f) end
    ⊎ EndedAfter limits a b (frame_steps p waiting f) end))) mine k)
  where
    peer : b.peer ≡ q
    peer = same-peer a b is ∙ mine

    in-frame : (f : Frame) → OneFrame taken f →
        MadeFirst limits a b (frame_steps q waiting f) end ⊎ EndedAfter limits a b (frame_steps q waiting f) end
        → ReadsLink limits b (read ++ taken) left faults end
    in-frame f o (inl m) = record {
      frames = r.frames ++ f ∷ [];
      rest = [];
      holds = held-more r.frames f read taken r.each r.is o;
      ends = ends-first limits q b (r.frames ++ f ∷ []) left faults m.e end peer quiet
          (stops-at limits q a b read waiting f end r m) m.why;
      no_fault = quiet;
      few = few;
    }
    in-frame f o (inr m) = record {
      frames = r.frames ++ f ∷ [];
      rest = [];
      holds = held-more r.frames f read taken r.each r.is o;
      ends = subst (λ (x : ReadEnd). EndsAs limits b (r.frames ++ f ∷ []) [] left faults (entries_by b.seat) x)
          (sym m.is) (
            m.ended,
            inl (
              quiet (λ x. (let e : ends.Ended m.cause ≡ ends.ReadFault = sym m.is ∙ x in cc)),
              inl (record {
                all = subst (λ q. entries_by b.seat ≡ link_steps q (r.frames ++ f ∷ [])) (sym peer)
                    (m.entries ∙ ap₂ (λ (es : List Entry) (w : List ℕ). es ++ frame_steps q w f) r.made r.waits
                    ∙ sym (steps-more q [] r.frames f));
                nothing_past = refl;
              }),
            ),
          );
      no_fault = quiet;
      few = few;
    }

    by : (NoFrame a b taken left end ⊎ (f : Frame) × OneFrame taken f
        × (MadeFirst limits a b (frame_steps q waiting f) end
        ⊎ EndedAfter limits a b (frame_steps q waiting f) end)) → ReadsLink limits b (read ++ taken) left faults end
    by (inl n) = record {
      frames = r.frames;
      rest = taken;
      holds = record { each = r.each; is = ap (λ (x : List ℕ). x ++ taken) r.is };
      ends = ends-none limits q b r.frames taken left faults end n.why peer (n.same ∙ r.made) n.is n.stops;
      no_fault = quiet;
      few = few;
    }
    by (inr k) = in-frame k.0 k.1 k.2

-- nothing was begun
pub nothing-read : (limits : Limits) (pass : PeerPass) (left : Option (List ℕ)) (faults : ℕ) →
    entries_by pass.seat ≡ [] → faults ≡ 0
    → ReadsLink limits pass [] left faults ends.NoMemory
nothing-read limits pass left faults none quiet = record {
  frames = [];
  rest = [];
  holds = record { each = tt; is = refl };
  ends = inl (record { frames_none = refl; rest_none = refl; made_none = none });
  no_fault = λ x. quiet;
  few = omega (arith, quiet);
}

-- and then the link's end is said

full-later : (limits : Limits) (a b : History) (e : Entry) (kept : Kept) → SawMore limits a b →
    HasSeenFull limits a e kept → HasSeenFull limits b e kept
full-later limits a b e kept s f = record {
  earlier = f.earlier;
  later = f.later ++ s.more;
  is = s.grew ∙ ap (λ h. h ++ s.more) f.is ∙ append_assoc f.earlier f.later s.more;
  full = f.full;
  at_limit = subst (λ (h : History). IsAtLimit limits (journal_of limits h)) (sym s.grew)
      (at-limit-later limits a s.more f.at_limit);
}

-- the end says the same of a pass of the same peer that has seen more, if it isn't that the peer had ended
ends-later : (limits : Limits) (a b : PeerPass) (frames : List Frame) (rest : List ℕ) (left : Option (List ℕ))
    (faults : ℕ) (made : List Entry) (end : ReadEnd)
    → b.peer ≡ a.peer → SawMore limits a.seat.seen b.seat.seen → ((cause : EndCause) → end ≢ ends.Ended cause)
    → EndsAs limits a frames rest left faults made end → EndsAs limits b frames rest left faults made end
ends-later limits a b frames rest left faults made ends.Closed peer s other k =
    subst (λ q. StopsBy q frames rest left made got.End) (sym peer) k
ends-later limits a b frames rest left faults made (ends.Torn n) peer s other k =
    subst (λ q. StopsBy q frames rest left made (got.Torn n)) (sym peer) k
ends-later limits a b frames rest left faults made (ends.BadFrame n t) peer s other k =
    subst (λ q. StopsBy q frames rest left made (got.BadFrame n t)) (sym peer) k
ends-later limits a b frames rest left faults made ends.ReadFault peer s other k =
    subst (λ q. StopsBy q frames rest left made got.ReadFault) (sym peer) k
ends-later limits a b frames rest left faults made (ends.Ended cause) peer s other k = absurd (other cause refl)
ends-later limits a b frames rest left faults made (ends.JournalFull kept) peer s other k = (
  k.0,
  subst (λ q. StopsAt q frames rest made k.0) (sym peer) k.1,
  full-later limits a.seat.seen b.seat.seen k.0 kept s k.2,
)
ends-later limits a b frames rest left faults made ends.NoMemory peer s other k =
    subst (λ q. (BeganNothing frames rest made ⊎ (e : Entry) × StopsAt q frames rest made e)) (sym peer) k

-- what any end says of the steps that were made
made-before : (limits : Limits) (a : PeerPass) (frames : List Frame) (rest : List ℕ) (left : Option (List ℕ))
    (faults : ℕ) (made : List Entry) (end : ReadEnd)
    → (end ≢ ends.ReadFault → faults ≡ 0) → faults ≤ 1 → EndsAs limits a frames rest left faults made end →
    MadeBefore a.peer frames rest left faults made
made-before limits a frames rest left faults made ends.Closed quiet few k =
    inl (quiet (λ x. cc), inr (inl (got.End, k)))
made-before limits a frames rest left faults made (ends.Torn n) quiet few k =
    inl (quiet (λ x. cc), inr (inl (got.Torn n, k)))
made-before limits a frames rest left faults made (ends.BadFrame n t) quiet few k =
    inl (quiet (λ x. cc), inr (inl (got.BadFrame n t, k)))
made-before limits a frames rest left faults made ends.ReadFault quiet few k = inr (few, k)
made-before limits a frames rest left faults made (ends.Ended cause) quiet few k = k.1
made-before limits a frames rest left faults made (ends.JournalFull kept) quiet few k =
    inl (quiet (λ x. cc), inr (inr (k.0, k.1)))
made-before limits a frames rest left faults made ends.NoMemory quiet few (inl n) =
    inl (
      quiet (λ x. cc),
      inl (record {
        all = n.made_none ∙ ap (link_steps a.peer) (sym n.frames_none);
        nothing_past = n.rest_none;
      }),
    )
made-before limits a frames rest left faults made ends.NoMemory quiet few (inr k) =
    inl (quiet (λ x. cc), inr (inr k))

gone-else : (q : ℕ) (end : ReadEnd) → ((cause : EndCause) → end ≢ ends.Ended cause) →
    gone_after q end ≡ entries.End q Gone ∷ []
gone-else q ends.Closed other = refl
gone-else q (ends.Torn n) other = refl
gone-else q (ends.BadFrame n t) other = refl
gone-else q ends.ReadFault other = refl
gone-else q (ends.Ended cause) other = absurd (other cause refl)
gone-else q (ends.JournalFull kept) other = refl
gone-else q ends.NoMemory other = refl

-- the peer had ended
pub ended-reads : (limits : Limits) (pass : PeerPass) (read : List ℕ) (left : Option (List ℕ)) (faults : ℕ)
    (cause : EndCause)
    → ReadsLink limits pass read left faults (ends.Ended cause) →
    ReadsPeer limits pass read left faults (ends.Ended cause)
ended-reads limits pass read left faults cause r = record {
  frames = r.frames;
  rest = r.rest;
  holds = r.holds;
  made = entries_by pass.seat;
  entries = sym (append-nil (entries_by pass.seat));
  ends = r.ends;
}

pub gone-said : (limits : Limits) (a b : PeerPass) (read : List ℕ) (left : Option (List ℕ)) (faults : ℕ)
    (end : ReadEnd)
    → b ≡ pass_having_seen a b.seat.seen → SawMore limits a.seat.seen b.seat.seen →
    ((cause : EndCause) → end ≢ ends.Ended cause)
    → entries_by b.seat ≡ entries_by a.seat ++ entries.End a.peer Gone ∷ []
    → ReadsLink limits a read left faults end → ReadsPeer limits b read left faults end
gone-said limits a b read left faults end is s other made r =
    let peer = same-peer a b is in record {
      frames = r.frames;
      rest = r.rest;
      holds = r.holds;
      made = entries_by a.seat;
      entries = made ∙ ap (λ (es : List Entry). entries_by a.seat ++ es)
          (sym (gone-else b.peer end other ∙ ap (λ q. entries.End q Gone ∷ []) peer));
      ends = ends-later limits a b r.frames r.rest left faults (entries_by a.seat) end peer s other r.ends;
    }

-- the peer had ended before its link's end was said
pub gone-late : (limits : Limits) (a b : PeerPass) (read : List ℕ) (left : Option (List ℕ)) (faults : ℕ)
    (end : ReadEnd) (cause : EndCause)
    → b ≡ pass_having_seen a b.seat.seen → entries_by b.seat ≡ entries_by a.seat →
    end_of (journal_of limits b.seat.seen) b.peer ≡ Some cause
    → ReadsLink limits a read left faults end → ReadsPeer limits b read left faults (ends.Ended cause)
gone-late limits a b read left faults end cause is same ended r =
    let peer = same-peer a b is in record {
      frames = r.frames;
      rest = r.rest;
      holds = r.holds;
      made = entries_by a.seat;
      entries = same ∙ sym (append-nil (entries_by a.seat));
      ends = (
        ended,
        subst (λ q. MadeBefore q r.frames r.rest left faults (entries_by a.seat)) (sym peer)
            (made-before limits a r.frames r.rest left faults (entries_by a.seat) end r.no_fault r.few r.ends),
      );
    }

single : (x e : Entry) (made more : List Entry) → x ∷ [] ≡ made ++ e ∷ more → made ≡ []
single x e [] more is = refl
single x e (m ∷ []) more is = absurd (cc)
single x e (m ∷ n ∷ made) more is = absurd (cc)

-- the link's end was refused
pub gone-refused : (limits : Limits) (a b : PeerPass) (read : List ℕ) (left : Option (List ℕ)) (faults : ℕ)
    (end other : ReadEnd) (e : Entry)
    → b ≡ pass_having_seen a b.seat.seen → MadeFirst limits a b (e ∷ []) other → IsGoneRefusal other
    → ReadsLink limits a read left faults end → ReadsPeer limits b read left faults other
gone-refused limits a b read left faults end (ends.Ended cause) e is m k r =
    gone-late limits a b read left faults end cause is
    (m.entries ∙ ap (λ (es : List Entry). entries_by a.seat ++ es) (single e m.e m.made m.more m.steps_are)
    ∙ append-nil (entries_by a.seat))
    m.why r
gone-refused limits a b read left faults end ends.Closed e is m k r = absurd k
gone-refused limits a b read left faults end (ends.Torn n) e is m k r = absurd k
gone-refused limits a b read left faults end (ends.BadFrame n t) e is m k r = absurd k
gone-refused limits a b read left faults end ends.ReadFault e is m k r = absurd k
gone-refused limits a b read left faults end (ends.JournalFull kept) e is m k r = absurd k
gone-refused limits a b read left faults end ends.NoMemory e is m k r = absurd k

-- the frame that was read

pub frame-of : (n t : ℕ) (bytes tokens taken bs ts : List ℕ) → IsFrameOf n t bytes tokens taken → bs ≡ take n bytes →
    ts ≡ take t tokens
    → OneFrame taken (frame bs ts)
frame-of n t bytes tokens taken bs ts k b e =
    let same : frame bs ts ≡ frame (take n bytes) (take t tokens) = ap₂ (λ (x y : List ℕ). frame x y) b e in
    record { is = subst IsFrame (sym same) k.is; spelled = k.spelled ∙ ap spelling (sym same) }

pub no-frame : (limits : Limits) (a : PeerPass) (waiting waiting' taken : List ℕ) (left : Option (List ℕ))
    (end : ReadEnd) (why : Got)
    → got_of end ≡ Some why → Stops why taken left → ReadsFrame limits a a waiting waiting' taken left (Err end)
no-frame limits a waiting waiting' taken left end why is stops =
    inl (record { why = why; is = is; stops = stops; same = refl })

pub frame-comes : (limits : Limits) (a b : PeerPass) (waiting waiting' taken : List ℕ) (left : Option (List ℕ))
    (f : Frame)
    (r : Result (Unit {0}) ReadEnd) → OneFrame taken f → MakesFrame limits a b waiting waiting' f r
    → ReadsFrame limits a b waiting waiting' taken left r
frame-comes limits a b waiting waiting' taken left f (Ok done) o m = (f, o, m.0, m.1, m.2)
frame-comes limits a b waiting waiting' taken left f (Err end) o m = inr (f, o, m)

-- no step is refused for a failed read
pub made-not-fault : (limits : Limits) (a b : PeerPass) (steps : List Entry) (end : ReadEnd) →
    MadeFirst limits a b steps end → end ≢ ends.ReadFault
made-not-fault limits a b steps end m is = subst (λ (x : ReadEnd). WhyNot limits b m.e x) is m.why

-- All that is put for a peer is heard by a client that knows the peer's objects.
use Rattle.std.proofs.Common.{◌≡◌, ℕ, ◌+◌, ◌^◌, ◌<◌, List, [], ◌∷◌, ◌++◌, length, Option, Some, refl, sym, ap, subst, ◌∙◌, arith, inr}
use Rattle.std.specs.Prelude.{IfSome}
use Rattle.std.specs.List.{AllByRecursion}
use Rattle.wl_wire.specs.Messages.{IsMessage}
use Rattle.wl_proto.specs.declared.interface.Interface.{Interface}
use Rattle.wl_proto.specs.declared.interface.Interface.TheVariants as interface
use Rattle.wl_proto.specs.Rows.{Message}
use Rattle.wl_proto.specs.Spelling.{message_bytes}
use Rattle.wl_proto.specs.Spelled.{AreTokens}
use Rattle.relay_model.specs.declared.said.Told.{Told}
use Rattle.relay_model.specs.declared.said.Said.{Said}
use Rattle.relay_model.specs.declared.said.Said.TheVariants as said
use Rattle.relay_model.specs.Told.{told}
use Rattle.broker_model.specs.declared.journal.Entry.{Entry}
use Rattle.broker_model.specs.Ids.{Made}
use Rattle.broker_model.specs.Groups.{message_of}
use Rattle.broker_model.specs.Resolve.{past_of, resolve, means}
use Rattle.broker_model.specs.Out.{act_at}
use Rattle.broker_model.proofs.EachElement.{each_weaker}
use Rattle.broker_model.proofs.IdsAreNames.{IsIn, made_with}
use Rattle.broker_model.proofs.MadeObjectsStand.{sound}
use Rattle.broker_telling.specs.Sayable.{AreHeld}
use Rattle.broker_telling.specs.ToldRead.{IsReadAs, IsToldRead, IsHeard, AllIsHeard}
use Rattle.broker_telling.proofs.MessagesTold.{TellsSo, told_each, all_messages}
use Rattle.broker_telling.proofs.MessagesPut.{entry_messages, put_messages}
use Rattle.broker_telling.proofs.ToldIsRead.{told_read}

-- ---- the tokens of a message

-- the tokens are at hand, and none are needed but for a keymap
record HasTokens (m : Message) : Type 0 where
  tokens : List ℕ
  are : AreTokens tokens m.values
  plain : (m.interface ≡ interface.KeyboardGrab → m.opcode ≡ 0 → ⊥) → tokens ≡ []

no_tokens : (m : Message) → AreTokens [] m.values → HasTokens m
no_tokens m h = record { tokens = []; are = h; plain = λ n. refl }

token_of : (made : List Made) (event : Said) → IfSome (message_of made event) HasTokens
token_of made (said.Keymap keymap) =
    record { tokens = keymap.token ∷ []; are = (tt, (refl, (tt, tt))); plain = λ n. absurd (n refl refl) }
token_of made (said.Enter surface) = no_tokens _ (tt, tt)
token_of made (said.Leave surface) = no_tokens _ (tt, tt)
token_of made (said.Preedit t begin end) = no_tokens _ (tt, (tt, (tt, tt)))
token_of made (said.CommitString t) = no_tokens _ (tt, tt)
token_of made (said.Delete before after) = no_tokens _ (tt, (tt, tt))
token_of made (said.FieldDone serial) = no_tokens _ (tt, tt)
token_of made said.Activate = no_tokens _ tt
token_of made said.Deactivate = no_tokens _ tt
token_of made (said.Surrounding t cursor anchor) = no_tokens _ (tt, (tt, (tt, tt)))
token_of made (said.ChangeCause cause) = no_tokens _ (tt, tt)
token_of made (said.ContentType hint purpose) = no_tokens _ (tt, (tt, tt))
token_of made said.MethodDone = no_tokens _ tt
token_of made said.Unavailable = no_tokens _ tt
token_of made (said.PopupRect x y width height) = no_tokens _ (tt, (tt, (tt, (tt, tt))))
token_of made (said.Key serial time key state) = no_tokens _ (tt, (tt, (tt, (tt, tt))))
token_of made (said.Mods serial mods) = no_tokens _ (tt, (tt, (tt, (tt, (tt, tt)))))
token_of made (said.Repeat repeat) = no_tokens _ (tt, (tt, tt))
token_of made (said.Global name i version) = no_tokens _ (tt, (tt, (tt, tt)))
token_of made (said.CallbackDone value) = no_tokens _ (tt, tt)
token_of made (said.DeleteId label) = no_tokens _ (tt, tt)
token_of made (said.Capabilities value) = no_tokens _ (tt, tt)
token_of made (said.Error object fault) = no_tokens _ (tt, (tt, (tt, tt)))
token_of made (said.Pass time key state) = tt
token_of made (said.VMods mods) = tt
token_of made (said.Placed popup x y) = tt

-- ---- one entry

some_of : {A : Type 0} (P : A → Type 0) (o : Option A) (x : A) → o ≡ Some x → IfSome o P → P x
some_of P o x e h = subst (λ u. IfSome u P) e h

-- what is read as an event of an object of the peer is heard by who knows the object
heard_by : (objects : ℕ → Option Interface) (object : Made) (m : Message) → objects object.id ≡ Some object.interface →
    HasTokens m → IsReadAs object m →
    IsHeard objects (message_bytes object.id m)
heard_by objects object m known t r = record {
  interface = object.interface;
  object = ap objects r.to ∙ known;
  tokens = t.tokens;
  plain = λ n. t.plain (λ i o. n (sym r.interface ∙ i) (r.opcode ∙ o));
  event = m;
  reads = r.reads t.tokens t.are;
}

-- the client knows each object that the peer made
abbrev Knows : (ℕ → Option Interface) → List Made → ℕ → Type 0
Knows objects made p = (m : Made) → IsIn made m → m.peer ≡ p → objects m.id ≡ Some m.interface

abbrev IsHeardWhole : (ℕ → Option Interface) → List ℕ → Type 0
IsHeardWhole objects bytes = IsMessage bytes × IsHeard objects bytes

tells_heard : (objects : ℕ → Option Interface) (made : List Made) (p : ℕ) (t : Told) → Knows objects made p →
    IsToldRead made t →
    TellsSo made p (IsHeardWhole objects) t
tells_heard objects made p t known h m is own x e =
    let r : IsReadAs m x = some_of (IsReadAs m) (message_of made t.event) x e (h m is) in
    let tokens : HasTokens x = some_of HasTokens (message_of made t.event) x e (token_of made t.event) in
    (r.whole, heard_by objects m x (known m (made_with made t.to m is).among own) tokens r)

entry_heard : (objects : ℕ → Option Interface) (e : Entry) (older : List Entry) (p : ℕ) → AreHeld (e ∷ older) →
    length (e ∷ older) < 2 ^ 32 →
    Knows objects (past_of (e ∷ older)).made p → AllByRecursion (IsHeardWhole objects) (entry_messages e older p)
entry_heard objects e older p h few known =
    let made : List Made = (past_of (e ∷ older)).made in
    told_each made p (IsHeardWhole objects) (told (act_at e older) (resolve older))
    (each_weaker (IsToldRead made) (TellsSo made p (IsHeardWhole objects)) (told (act_at e older) (resolve older))
    (λ t r. tells_heard objects made p t known r) (told_read e older h few))

-- ---- all entries

in_older : (new made : List Made) (m : Made) → IsIn made m → IsIn (new ++ made) m
in_older [] made m i = i
in_older (x ∷ new) made m i = inr (in_older new made m i)

-- what is asked of a journal, and of those before
record Asks (objects : ℕ → Option Interface) (p : ℕ) (journal : List Entry) : Type 0 where
  held : AreHeld journal
  few : length journal < 2 ^ 32
  known : Knows objects (past_of journal).made p

asks_before : (objects : ℕ → Option Interface) (p : ℕ) (e : Entry) (older : List Entry) → Asks objects p (e ∷ older) →
    Asks objects p older
asks_before objects p e older a = record {
  held = a.held.1;
  few = (let few = a.few in omega arith);
  known = λ m i own. a.known m
      (in_older (means e (length older + 1) (past_of older)).made (past_of older).made m i) own;
}

pub all_heard : AllIsHeard
all_heard capacity journal p objects h few known =
    let put = put_messages (IsHeardWhole objects) (Asks objects p) p (asks_before objects p)
    (λ e older a. entry_heard objects e older p a.held a.few a.known) capacity journal
    (record { held = h; few = few; known = λ m i own. known m (sound journal m i).known own }) in
    record {
      messages = put.messages;
      is = put.is;
      whole = all_messages put.messages
          (each_weaker (IsHeardWhole objects) IsMessage put.messages (λ m k. k.0) put.each);
      heard = each_weaker (IsHeardWhole objects) (IsHeard objects) put.messages (λ m k. k.1) put.each;
    }

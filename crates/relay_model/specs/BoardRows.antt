-- Worked rows of virtual keyboards: what each act of a list tells, by the definitions.
use Rattle.std.specs.Prelude.{◌≡◌, ℕ, List, [], ◌∷◌}
use Rattle.relay_model.specs.declared.act.Act.TheVariants as acts
use Rattle.relay_model.specs.declared.act.EndCause.TheVariants as causes
use Rattle.relay_model.specs.declared.said.Said.TheVariants as said
use Rattle.relay_model.specs.KeyRows.{mods, keymap}
use Rattle.relay_model.specs.Told.{to, told_each}

-- a method's own keys pass by its grab, and another peer's go to it; the keys of each board are
-- counted by themselves
abbrev pub OwnKeysPass : Type 0
OwnKeysPass =
    told_each []
    (acts.Peer
    ∷ acts.Method 1
    ∷ acts.Grab 2
    ∷ acts.VBoard 1
    ∷ acts.VKeymap 4 (keymap 1 9 100)
    ∷ acts.VKey 4 5 30 1
    ∷ acts.Key 6 31 1
    ∷ acts.Peer
    ∷ acts.VBoard 8
    ∷ acts.VKeymap 9 (keymap 1 9 100)
    ∷ acts.VKey 9 7 32 1
    ∷ [])
    ≡ ([]
    ∷ []
    ∷ []
    ∷ []
    ∷ []
    ∷ (to 0 (said.Pass 5 30 1) ∷ [])
    ∷ (to 3 (said.Key 7 6 31 1) ∷ [])
    ∷ []
    ∷ []
    ∷ []
    ∷ (to 3 (said.Key 11 7 32 1) ∷ [])
    ∷ [])

-- a board that has had no keymap sends nothing, and its end tells no releases
abbrev pub NoKeymap : Type 0
NoKeymap =
    told_each []
    (acts.Peer
    ∷ acts.VBoard 1
    ∷ acts.VKey 2 5 30 1
    ∷ acts.VMods 2 (mods 1 2 3 4)
    ∷ acts.VKeymap 2 (keymap 1 9 100)
    ∷ acts.VKey 2 6 30 1
    ∷ acts.VMods 2 (mods 1 2 3 4)
    ∷ acts.Drop 2
    ∷ acts.VKey 2 7 30 0
    ∷ [])
    ≡ ([]
    ∷ []
    ∷ []
    ∷ []
    ∷ []
    ∷ (to 0 (said.Pass 6 30 1) ∷ [])
    ∷ (to 0 (said.VMods (mods 1 2 3 4)) ∷ [])
    ∷ (to 1 (said.DeleteId 2) ∷ [])
    ∷ []
    ∷ [])

-- a release goes where the press went, also beside the same key on another board and on the shell's
-- keyboard; nowhere where the grab fell
abbrev pub ReleasesFollow : Type 0
ReleasesFollow =
    told_each []
    (acts.Peer
    ∷ acts.Method 1
    ∷ acts.Peer
    ∷ acts.VBoard 3
    ∷ acts.VKeymap 4 (keymap 1 9 100)
    ∷ acts.VBoard 3
    ∷ acts.VKeymap 6 (keymap 1 9 100)
    ∷ acts.VKey 4 1 30 1
    ∷ acts.Grab 2
    ∷ acts.VKey 6 2 30 1
    ∷ acts.Key 3 30 1
    ∷ acts.VKey 4 4 30 0
    ∷ acts.VMods 6 (mods 5 6 7 8)
    ∷ acts.Drop 9
    ∷ acts.VMods 6 (mods 5 6 7 8)
    ∷ acts.VKey 6 5 30 0
    ∷ acts.VKey 6 6 30 0
    ∷ acts.Gone 3 causes.Gone
    ∷ acts.VKey 4 7 30 1
    ∷ [])
    ≡ ([]
    ∷ []
    ∷ []
    ∷ []
    ∷ []
    ∷ []
    ∷ []
    ∷ (to 0 (said.Pass 1 30 1) ∷ [])
    ∷ []
    ∷ (to 9 (said.Key 10 2 30 1) ∷ [])
    ∷ (to 9 (said.Key 11 3 30 1) ∷ [])
    ∷ (to 0 (said.Pass 4 30 0) ∷ [])
    ∷ (to 9 (said.Mods 13 (mods 5 6 7 8)) ∷ [])
    ∷ (to 1 (said.DeleteId 9) ∷ [])
    ∷ (to 0 (said.VMods (mods 5 6 7 8)) ∷ [])
    ∷ []
    ∷ (to 0 (said.Pass 6 30 0) ∷ [])
    ∷ []
    ∷ []
    ∷ [])

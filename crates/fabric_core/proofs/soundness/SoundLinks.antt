-- Sound packets on links, where what one direction has changes.
use Rattle.std.proofs.Common.{◌≡◌, ◌⊎◌, inl, inr, ℕ, zero, suc, List, [], ◌∷◌, ◌++◌, get_or, set, Some, refl, sym, ap, ◌∙◌, subst}
use Rattle.std.specs.Prelude.{All}
use Rattle.std.proofs.lemmas.List.Elements.{All-cons, All-head, All-nil}
use Rattle.fab_types.specs.declared.place.Direction.{Direction}
use Rattle.frame_log.specs.Descriptor.{Descriptor}
use Rattle.platform.specs.Platform.{Platform}
use Rattle.link.specs.Channels.{Channel, with_egress}
use Rattle.lane.specs.Lanes.{Class, class_of, eligible}
use Rattle.topology.specs.declared.links.Link.{Link}
use Rattle.topology.specs.declared.nodes.LinkEnd.{LinkEnd}
use Rattle.topology.specs.Links.{sender_of}
use Rattle.interconnect.specs.Moves.{channel_at, left_at, no_channel, put_at, with_channel, with_ingress}
use Rattle.guarded_routes.specs.Sound.{IsSound}
use Rattle.fabric_core.specs.Places.{frames_on}
use Rattle.fabric_core.specs.Soundness.{IsUnsent}
use Rattle.fabric_core.proofs.invariant.Changing.{Changed, at_back, at_front, grown, taken_out}

-- ---- one direction changes, and no other

-- an element of a list with another one at a place
either_set : {X : Type 0} (xs : List X) (i j : ℕ) (y d : X) → (get_or (set xs i y) j d ≡ get_or xs j d) ⊎ ((j ≡ i) × (get_or (set xs i y) j d ≡ y))
either_set [] i j y d = inl refl
either_set (x ∷ xs) zero zero y d = inr (refl, refl)
either_set (x ∷ xs) zero (suc j) y d = inl refl
either_set (x ∷ xs) (suc i) zero y d = inl refl
either_set (x ∷ xs) (suc i) (suc j) y d = again (either_set xs i j y d)
  where
    again : (get_or (set xs i y) j d ≡ get_or xs j d) ⊎ ((j ≡ i) × (get_or (set xs i y) j d ≡ y)) → (get_or (set xs i y) j d ≡ get_or xs j d) ⊎ ((suc j ≡ suc i) × (get_or (set xs i y) j d ≡ y))
    again (inl same) = inl same
    again (inr h) = inr (ap suc h.0, h.1)

-- the direction of an end is as it was, or is the one that changed
abbrev pub Either : List (List Channel) → LinkEnd → LinkEnd → Channel → Type 0
Either channels end other c = (channel_at (with_channel channels end c) other ≡ channel_at channels other) ⊎ ((other ≡ end) × (channel_at (with_channel channels end c) other ≡ c))

abbrev outputs_at : List (List Channel) → LinkEnd → List Channel
outputs_at channels end = get_or channels end.node []

in_output : (channels : List (List Channel)) (end other : LinkEnd) (c : Channel) → get_or (with_channel channels end c) other.node [] ≡ set (outputs_at channels end) end.output c → other.node ≡ end.node
    → (get_or (set (outputs_at channels end) end.output c) other.output no_channel ≡ get_or (outputs_at channels end) other.output no_channel) ⊎ ((other.output ≡ end.output) × (get_or (set (outputs_at channels end) end.output c) other.output no_channel ≡ c))
    → Either channels end other c
in_output channels end other c now node (inl same) =
    inl (ap (λ (ls : List Channel). get_or ls other.output no_channel) now ∙ (same ∙ ap (λ (n : ℕ). get_or (get_or channels n []) other.output no_channel) (sym node)))
in_output channels end other c now node (inr h) = inr ((λ i. record { node = node i; output = h.0 i }), ap (λ (ls : List Channel). get_or ls other.output no_channel) now ∙ h.1)

pub either_channel : (channels : List (List Channel)) (end other : LinkEnd) (c : Channel) → Either channels end other c
either_channel channels end other c = by (either_set channels end.node other.node (set (outputs_at channels end) end.output c) [])
  where
    by : (get_or (with_channel channels end c) other.node [] ≡ outputs_at channels other) ⊎ ((other.node ≡ end.node) × (get_or (with_channel channels end c) other.node [] ≡ set (outputs_at channels end) end.output c)) → Either channels end other c
    by (inl same) = inl (ap (λ (ls : List Channel). get_or ls other.output no_channel) same)
    by (inr h) = in_output channels end other c h.1 h.0 (either_set (outputs_at channels end) end.output other.output c no_channel)

-- no packet at all
all_never : (xs : List Descriptor) → All (λ (x : Descriptor). ⊥) xs → xs ≡ []
all_never [] none = refl
all_never (x ∷ xs) none = absurd (All-head (λ (x : Descriptor). ⊥) x xs none)

never_any : (xs : List Descriptor) → xs ≡ [] → All (λ (x : Descriptor). ⊥) xs
never_any xs none = subst (All (λ (x : Descriptor). ⊥)) (sym none) (All-nil (λ (x : Descriptor). ⊥))

module _ (platform : Platform) (links : List Link) where
  -- what each direction has is sound there, and nothing stands elsewhere
  pub record SoundOn (channels : List (List Channel)) : Type 0 where
    pub there : (direction : Direction) (end : LinkEnd) → sender_of links direction ≡ Some end → All (IsSound platform direction) (frames_on (channel_at channels end))
    pub elsewhere : (end : LinkEnd) → IsUnsent links end → frames_on (channel_at channels end) ≡ []

  -- these are sound wherever packets are sent from the end, and there are none where none are
  pub record SoundAt (end : LinkEnd) (frames : List Descriptor) : Type 0 where
    pub there : (direction : Direction) → sender_of links direction ≡ Some end → All (IsSound platform direction) frames
    pub elsewhere : IsUnsent links end → frames ≡ []

  nothing_at : (end : LinkEnd) → SoundAt end []
  nothing_at end = record { there = λ direction from. All-nil (IsSound platform direction); elsewhere = λ unsent. refl }

  -- one direction has other packets, which are those that it had or sound ones
  pub sound_with : (channels : List (List Channel)) (end : LinkEnd) (c : Channel) (lost gained : List Descriptor) → SoundOn channels → Changed (frames_on (channel_at channels end)) (frames_on c) lost gained → SoundAt end gained
      → SoundOn (with_channel channels end c)
  sound_with channels end c lost gained sound changed new = record {
    there = λ direction other from. by direction other from (either_channel channels end other c);
    elsewhere = λ other unsent. none other unsent (either_channel channels end other c);
  }
    where
      by : (direction : Direction) (other : LinkEnd) → sender_of links direction ≡ Some other → Either channels end other c → All (IsSound platform direction) (frames_on (channel_at (with_channel channels end c) other))
      by direction other from (inl same) = subst (λ (x : Channel). All (IsSound platform direction) (frames_on x)) (sym same) (sound.there direction other from)
      by direction other from (inr h) =
          let from_end : sender_of links direction ≡ Some end = from ∙ ap (λ (e : LinkEnd). Some e) h.0 in
          subst (λ (x : Channel). All (IsSound platform direction) (frames_on x)) (sym h.1) (changed.left (IsSound platform direction) (sound.there direction end from_end) (new.there direction from_end))

      none : (other : LinkEnd) → IsUnsent links other → Either channels end other c → frames_on (channel_at (with_channel channels end c) other) ≡ []
      none other unsent (inl same) = ap frames_on same ∙ sound.elsewhere other unsent
      none other unsent (inr h) =
          let unsent_end : IsUnsent links end = subst (IsUnsent links) h.0 unsent in
          ap frames_on h.1 ∙ all_never (frames_on c) (changed.left (λ (x : Descriptor). ⊥) (never_any (frames_on (channel_at channels end)) (sound.elsewhere end unsent_end)) (never_any gained (new.elsewhere unsent_end)))

  -- a step keeps the packets of a direction
  pub sound_step : (channels : List (List Channel)) (end : LinkEnd) (c : Channel) → SoundOn channels → Changed (frames_on (channel_at channels end)) (frames_on c) [] [] → SoundOn (with_channel channels end c)
  sound_step channels end c sound changed = sound_with channels end c [] [] sound changed (nothing_at end)

  -- a packet is sound wherever packets are sent from the end, and they are
  pub record SoundFrom (end : LinkEnd) (frame : Descriptor) : Type 0 where
    pub there : (direction : Direction) → sender_of links direction ≡ Some end → IsSound platform direction frame
    pub sent : IsUnsent links end → ⊥

  pub sound_put : (channels : List (List Channel)) (end : LinkEnd) (frame : Descriptor) → SoundOn channels → SoundFrom end frame → SoundOn (put_at channels end frame)
  sound_put channels end frame sound new =
      let c = channel_at channels end in
      sound_with channels end (with_egress c (c.egress ++ frame ∷ [])) [] (frame ∷ []) sound (at_front c.egress (c.egress ++ frame ∷ []) (c.wire ++ c.ingress) [] (frame ∷ []) (grown c.egress (frame ∷ [])))
      (record {
        there = λ direction from. All-cons (IsSound platform direction) frame [] (new.there direction from) (All-nil (IsSound platform direction));
        elsewhere = λ unsent. absurd (new.sent unsent);
      })

  taken_from : (c : Channel) (class : Class) (frame : Descriptor) (rest : List Descriptor) → eligible class c.ingress ≡ Some (frame, rest) → Changed (frames_on c) (frames_on (with_ingress c rest)) (frame ∷ []) []
  taken_from c class frame rest e = at_back c.egress (c.wire ++ c.ingress) (c.wire ++ rest) (frame ∷ []) [] (at_back c.wire c.ingress rest (frame ∷ []) [] (taken_out class_of class c.ingress rest frame e))

  -- what is left
  pub sound_left : (channels : List (List Channel)) (end : LinkEnd) (class : Class) (frame : Descriptor) (rest : List Descriptor) → SoundOn channels → eligible class (channel_at channels end).ingress ≡ Some (frame, rest) → SoundOn (left_at channels end rest)
  sound_left channels end class frame rest sound e =
      let c = channel_at channels end in
      sound_with channels end (with_ingress c rest) (frame ∷ []) [] sound (taken_from c class frame rest e) (nothing_at end)

  -- what was taken
  pub sound_taken : (channels : List (List Channel)) (direction : Direction) (end : LinkEnd) (class : Class) (frame : Descriptor) (rest : List Descriptor) → SoundOn channels → sender_of links direction ≡ Some end
      → eligible class (channel_at channels end).ingress ≡ Some (frame, rest) → IsSound platform direction frame
  sound_taken channels direction end class frame rest sound from e =
      All-head (IsSound platform direction) frame [] ((taken_from (channel_at channels end) class frame rest e).found (IsSound platform direction) (sound.there direction end from))

-- Why a request is told, or not.
use Rattle.std.proofs.Common.{◌≡◌, ◌≢◌, ℕ, Bool, true, false, List, Option, Some, None, refl, subst, inl, inr}
use Rattle.std.specs.Prelude.{◌↔◌, IsTrue, MatchBool}
use Rattle.std.proofs.lemmas.Bool.{false≢true}
use Rattle.platform.specs.Platform.{Platform}
use Rattle.fabric_core.specs.declared.event.Event.TheVariants.{Submit}
use Rattle.fabric_core.specs.Isolation.{home}
use Rattle.fabric_core.specs.World.{World, world_of}
use Rattle.attacks.specs.Controls.{is_clear}
use Rattle.attacks.specs.Packets.{own_bytes, own_read}
use Rattle.attacks.specs.declared.findings.Witness.{Witness}
use Rattle.attacks.specs.declared.own_read.OwnRead.{OwnRead}
use Rattle.audit.specs.Landing.{IsClosedByAnother, IsRace, IsRefused, IsRun, IsTried, Lands, Misses, Shows, submitter}

-- ---- what isn't begun

pub refused : (p : Platform) (w : Witness) (read : Option OwnRead) (packet : List ℕ) → packet ≡ w.bytes → IsRefused p (submitter w) w.function packet → Misses p w read
refused p w read packet e h = inl (subst (λ (bytes : List ℕ). IsRefused p (submitter w) w.function bytes) e h)

pub own_refused : (p : Platform) (w : Witness) (read : OwnRead) (own : List ℕ) → own ≡ own_bytes read → IsRefused p w.victim read.function own → Misses p w (Some read)
own_refused p w read own e h = inr (inl (subst (λ (bytes : List ℕ). IsRefused p w.victim read.function bytes) e h))

-- ---- what was run

decided : (r : Bool) (A B S : Type 0) → (IsTrue r ↔ S) → (S → A) → ((S → ⊥) → B) → MatchBool r A B
decided true A B S is found missed = found (is.0 refl)
decided false A B S is found missed = missed (λ s. false≢true (is.1 s))

pub shown : (p : Platform) (w : Witness) (start end : World) (bytes packet : List ℕ) (r : Bool) → start ≡ world_of p → bytes ≡ w.bytes → packet ≡ w.bytes
    → home (world_of p) (Submit w.function packet) ≡ Some (submitter w) → IsRun p w.function packet end
    → (IsTrue r ↔ Shows start end w.attacker w.victim w.harm w.function bytes) → IsTried r p w None
shown p w start end bytes packet r start_is bytes_is packet_is own run is =
    let mine : home (world_of p) (Submit w.function w.bytes) ≡ Some (submitter w) =
    subst (λ (bs : List ℕ). home (world_of p) (Submit w.function bs) ≡ Some (submitter w)) packet_is own in
    let ran : IsRun p w.function w.bytes end = subst (λ (bs : List ℕ). IsRun p w.function bs end) packet_is run in
    let from_start : IsTrue r ↔ Shows (world_of p) end w.attacker w.victim w.harm w.function bytes =
    subst (λ (s : World). IsTrue r ↔ Shows s end w.attacker w.victim w.harm w.function bytes) start_is is in
    let by_bytes : IsTrue r ↔ Shows (world_of p) end w.attacker w.victim w.harm w.function w.bytes =
    subst (λ (bs : List ℕ). IsTrue r ↔ Shows (world_of p) end w.attacker w.victim w.harm w.function bs) bytes_is from_start in
    decided r _ _ (Shows (world_of p) end w.attacker w.victim w.harm w.function w.bytes) by_bytes (λ s. (mine, record { end = end; run = ran; shown = s }))
    (λ no. inr (record { end = end; run = ran; unseen = no }))

pub closed : (p : Platform) (w : Witness) (read : OwnRead) (alone raced : World) (packet own : List ℕ) (r : Bool) → packet ≡ w.bytes → own ≡ own_bytes read
    → home (world_of p) (Submit w.function packet) ≡ Some (submitter w) → IsRace p w.function packet read raced
    → home (world_of p) (Submit read.function own) ≡ Some w.victim → IsRun p read.function own alone
    → (IsTrue r ↔ IsClosedByAnother alone raced w.victim read.function) → IsTried r p w (Some read)
closed p w read alone raced packet own r packet_is own_is attacks race reads run is =
    let mine : home (world_of p) (Submit w.function w.bytes) ≡ Some (submitter w) =
    subst (λ (bs : List ℕ). home (world_of p) (Submit w.function bs) ≡ Some (submitter w)) packet_is attacks in
    let behind : IsRace p w.function w.bytes read raced = subst (λ (bs : List ℕ). IsRace p w.function bs read raced) packet_is race in
    let asks : home (world_of p) (Submit read.function (own_bytes read)) ≡ Some w.victim =
    subst (λ (bs : List ℕ). home (world_of p) (Submit read.function bs) ≡ Some w.victim) own_is reads in
    let ran : IsRun p read.function (own_bytes read) alone = subst (λ (bs : List ℕ). IsRun p read.function bs alone) own_is run in
    decided r _ _ (IsClosedByAnother alone raced w.victim read.function) is
    (λ s. (mine, record { own = asks; alone = alone; run = ran; raced = raced; race = behind; closed = s }))
    (λ no. inr (inr (record { alone = alone; run = ran; raced = raced; race = behind; unseen = no })))

-- ---- what lands

pub landed : (p : Platform) (w : Witness) (r : Bool) → w.attacker ≢ w.victim → is_clear p.ports w.port w.control ≡ true → r ≡ true → IsTried r p w (own_read w.harm) → Lands p w
landed p w r other clear is h =
    let tried : IsTried true p w (own_read w.harm) = subst (λ (b : Bool). IsTried b p w (own_read w.harm)) is h in
    record { other = other; own = tried.0; clear = clear; harms = tried.1 }

-- Where all that mapped a frame are of one domain, the first of them tells whose it is.
use Rattle.std.proofs.Common.{◌≡◌, ℕ, ◌==◌, Bool, true, false, cond, List, [], ◌∷◌, Option, Some, None, filter, option_map, refl, sym, ap, ◌∙◌, eqb-true, eq-eqb}
use Rattle.std.specs.Prelude.{◌&&◌, ◌||◌, not}
use Rattle.std.specs.List.{list_all, list_any, find}
use Rattle.platform.specs.declared.parts.DownstreamPort.{DownstreamPort}
use Rattle.platform.specs.declared.parts.MapTarget.{MapTarget}
use Rattle.platform.specs.declared.parts.MapTarget.TheVariants as mapped
use Rattle.platform.specs.declared.parts.Mapping.{Mapping}
use Rattle.platform.specs.Tree.{domain_of}
use Rattle.layout.specs.Rules.{is_mapping_of, is_foreign_frame}
use Rattle.layout.specs.Laws.{each_pair, is_own_frame, share_no_frame}
use Rattle.layout.specs.MapLines.{first_of_frame}
use Rattle.layout.specs.Views.{is_frame_of, is_map_of}
use Rattle.platform.proofs.Bools.{and-first, and-second}

-- is the first mapping that was found of another domain?
abbrev pub is_foreign_line : List DownstreamPort → ℕ → Option Mapping → Bool
is_foreign_line ports domain None = false
is_foreign_line ports domain (Some line) = not (domain_of ports line.requester == domain)

-- two lines that map one frame are of one domain
same_domain : (ports : List DownstreamPort) (one : Mapping) (frame domain : ℕ) (t : MapTarget) → is_mapping_of frame one.target ≡ true → is_mapping_of frame t ≡ true
    → is_own_frame ports one domain t ≡ true → domain_of ports one.requester ≡ domain
same_domain ports one frame domain (mapped.Frame k) maps other own =
    let same : k ≡ frame = eqb-true k frame other in
    go (is_mapping_of k one.target) (domain_of ports one.requester == domain) (rw same maps) refl own
  where
    go : (m e : Bool) → m ≡ true → e ≡ (domain_of ports one.requester == domain) → not (m && not e) ≡ true → domain_of ports one.requester ≡ domain
    go true true m e h = eqb-true (domain_of ports one.requester) domain (sym e)
    go true false m e h = absurd cc
    go false other m e h = absurd cc
same_domain ports one frame domain (mapped.Peer peer) maps other own = absurd cc

-- is the line one of another domain that maps the frame?
abbrev is_other : List DownstreamPort → ℕ → ℕ → Mapping → Bool
is_other ports domain frame line = is_mapping_of frame line.target && not (domain_of ports line.requester == domain)

not_other : (ports : List DownstreamPort) (one line : Mapping) (frame domain : ℕ) (m e rest : Bool) → m ≡ is_mapping_of frame line.target → e ≡ (domain_of ports line.requester == domain) → is_mapping_of frame one.target ≡ true
    → domain_of ports one.requester ≡ domain → share_no_frame ports one line ≡ true → rest ≡ false → (m && not e) || rest ≡ false
not_other ports one line frame domain false e rest m i first of own later = later
not_other ports one line frame domain true true rest m i first of own later = later
not_other ports one line frame domain true false rest m i first of own later =
    let same : domain_of ports one.requester ≡ domain_of ports line.requester = same_domain ports one frame (domain_of ports line.requester) line.target first (sym m) own in
    let is : (domain_of ports line.requester == domain) ≡ true = eq-eqb _ _ (sym same ∙ of) in
    absurd (let no_way : false ≡ true = i ∙ is in cc)

-- none is of another domain where the first is of this one
none_other : (ports : List DownstreamPort) (one : Mapping) (frame domain : ℕ) (maps : List Mapping) → is_mapping_of frame one.target ≡ true → domain_of ports one.requester ≡ domain → list_all (share_no_frame ports one) maps ≡ true
    → list_any (is_other ports domain frame) maps ≡ false
none_other ports one frame domain [] first of all = refl
none_other ports one frame domain (line ∷ maps) first of all =
    not_other ports one line frame domain (is_mapping_of frame line.target) (domain_of ports line.requester == domain) _ refl refl first of (and-first _ _ all)
    (none_other ports one frame domain maps first of (and-second _ _ all))

-- the first line that maps the frame tells, if it is this one or a later one
tells : (ports : List DownstreamPort) (line : Mapping) (frame domain : ℕ) (maps : List Mapping) (m e : Bool) → m ≡ is_mapping_of frame line.target → e ≡ (domain_of ports line.requester == domain) → list_all (share_no_frame ports line) maps ≡ true
    → is_foreign_line ports domain (find (λ l. is_mapping_of frame l.target) maps) ≡ list_any (is_other ports domain frame) maps
    → is_foreign_line ports domain (cond m (Some line) (find (λ l. is_mapping_of frame l.target) maps)) ≡ ((m && not e) || list_any (is_other ports domain frame) maps)
tells ports line frame domain maps false e m i all rest = rest
tells ports line frame domain maps true false m i all rest = ap not (sym i)
tells ports line frame domain maps true true m i all rest = ap not (sym i) ∙ sym (none_other ports line frame domain maps (sym m) (eqb-true _ _ (sym i)) all)

any_tells : (ports : List DownstreamPort) (domain frame : ℕ) (maps : List Mapping) → each_pair (share_no_frame ports) maps ≡ true
    → is_foreign_line ports domain (find (λ line. is_mapping_of frame line.target) maps) ≡ list_any (is_other ports domain frame) maps
any_tells ports domain frame [] pairs = refl
any_tells ports domain frame (line ∷ maps) pairs =
    tells ports line frame domain maps (is_mapping_of frame line.target) (domain_of ports line.requester == domain) refl refl (and-first _ _ pairs)
    (any_tells ports domain frame maps (and-second _ _ pairs))

pub first_tells : (ports : List DownstreamPort) (domain frame : ℕ) (maps : List Mapping) → each_pair (share_no_frame ports) maps ≡ true
    → is_foreign_line ports domain (find (λ line. is_mapping_of frame line.target) maps) ≡ is_foreign_frame ports maps domain frame
unfolding is_foreign_frame
first_tells ports domain frame maps pairs = any_tells ports domain frame maps pairs

-- what the requester of the first line tells
pub foreign_by : (ports : List DownstreamPort) (domain : ℕ) (found : Option Mapping) (requester : ℕ) → option_map (λ line. line.requester) found ≡ Some requester
    → is_foreign_line ports domain found ≡ not (domain_of ports requester == domain)
foreign_by ports domain None requester is = absurd cc
foreign_by ports domain (Some line) requester is = let same : line.requester ≡ requester = cc in ap (λ (id : ℕ). not (domain_of ports id == domain)) same

pub foreign_none : (ports : List DownstreamPort) (domain : ℕ) (found : Option Mapping) → option_map (λ line. line.requester) found ≡ None → is_foreign_line ports domain found ≡ false
foreign_none ports domain None is = refl
foreign_none ports domain (Some line) is = absurd cc

-- ---- is a frame one of the domain?

module _ (ports : List DownstreamPort) (domain frame : ℕ) where
  abbrev leads : Mapping → Bool
  leads line = is_mapping_of frame line.target

  -- is the first mapping that was found one of the domain?
  abbrev is_own_line : Option Mapping → Bool
  is_own_line None = false
  is_own_line (Some line) = domain_of ports line.requester == domain

  clear : (one line : Mapping) (m e : Bool) (kept : List Mapping) → m ≡ leads line → e ≡ is_map_of ports domain line → leads one ≡ true → is_map_of ports domain one ≡ false
      → share_no_frame ports one line ≡ true → list_any leads kept ≡ false → list_any leads (cond e (line ∷ kept) kept) ≡ false
  clear one line m false kept is own first of apart rest = rest
  clear one line false true kept is own first of apart rest = ap (λ (b : Bool). b || list_any leads kept) (sym is) ∙ rest
  clear one line true true kept is own first of apart rest =
      let same : domain_of ports one.requester ≡ domain_of ports line.requester = same_domain ports one frame (domain_of ports line.requester) line.target first (sym is) apart in
      absurd (let no_way : true ≡ false = own ∙ ap (λ (d : ℕ). d == domain) (sym same) ∙ of in cc)

  -- none is one of the domain's where the first is none
  none_own : (one : Mapping) (maps : List Mapping) → leads one ≡ true → is_map_of ports domain one ≡ false → list_all (share_no_frame ports one) maps ≡ true → list_any leads (filter (is_map_of ports domain) maps) ≡ false
  none_own one [] first of all = refl
  none_own one (line ∷ maps) first of all =
      clear one line (leads line) (is_map_of ports domain line) (filter (is_map_of ports domain) maps) refl refl first of (and-first _ _ all) (none_own one maps first of (and-second _ _ all))

  own_by : (line : Mapping) (maps : List Mapping) (m e : Bool) → m ≡ leads line → e ≡ is_map_of ports domain line → list_all (share_no_frame ports line) maps ≡ true
      → is_own_line (find leads maps) ≡ list_any leads (filter (is_map_of ports domain) maps)
      → is_own_line (cond m (Some line) (find leads maps)) ≡ list_any leads (cond e (line ∷ filter (is_map_of ports domain) maps) (filter (is_map_of ports domain) maps))
  own_by line maps false false is own all rest = rest
  own_by line maps false true is own all rest = rest ∙ sym (ap (λ (b : Bool). b || list_any leads (filter (is_map_of ports domain) maps)) (sym is))
  own_by line maps true true is own all rest = sym own ∙ sym (ap (λ (b : Bool). b || list_any leads (filter (is_map_of ports domain) maps)) (sym is))
  own_by line maps true false is own all rest = sym own ∙ sym (none_own line maps (sym is) (sym own) all)

  own_tells : (maps : List Mapping) → each_pair (share_no_frame ports) maps ≡ true → is_own_line (find leads maps) ≡ is_frame_of (filter (is_map_of ports domain) maps) frame
  own_tells [] pairs = refl
  own_tells (line ∷ maps) pairs = own_by line maps (leads line) (is_map_of ports domain line) refl refl (and-first _ _ pairs) (own_tells maps (and-second _ _ pairs))

  by_requester : (found : Option Mapping) (requester : ℕ) → option_map (λ line. line.requester) found ≡ Some requester → is_own_line found ≡ (domain_of ports requester == domain)
  by_requester None requester is = absurd cc
  by_requester (Some line) requester is = let same : line.requester ≡ requester = cc in ap (λ (id : ℕ). domain_of ports id == domain) same

  by_none : (found : Option Mapping) → option_map (λ line. line.requester) found ≡ None → is_own_line found ≡ false
  by_none None is = refl
  by_none (Some line) is = absurd cc

  pub own_frame : (maps : List Mapping) (requester : ℕ) → each_pair (share_no_frame ports) maps ≡ true → first_of_frame maps frame ≡ Some requester → (domain_of ports requester == domain) ≡ is_frame_of (filter (is_map_of ports domain) maps) frame
  own_frame maps requester pairs is = sym (by_requester (find leads maps) requester is) ∙ own_tells maps pairs

  pub no_own_frame : (maps : List Mapping) → each_pair (share_no_frame ports) maps ≡ true → first_of_frame maps frame ≡ None → false ≡ is_frame_of (filter (is_map_of ports domain) maps) frame
  no_own_frame maps pairs is = sym (by_none (find leads maps) is) ∙ own_tells maps pairs

-- The ports up to the one above a switch.
use Rattle.std.proofs.Common.{◌≡◌, ℕ, ◌==◌, Bool, true, false, cond, refl, ap, List, [], ◌∷◌, ◌++◌, Option, Some, None, eqb-true}
use Rattle.std.specs.Prelude.{MatchOption, option_map}
use Rattle.platform.specs.declared.parts.DownstreamPort.{DownstreamPort}
use Rattle.platform.specs.Tree.{port_at}
use Rattle.text_writers.specs.PlatformLines.{split_behind}

-- ports that are split behind the one of an ID
pub record IsSplit (id : ℕ) (ports : List DownstreamPort) (parts : List DownstreamPort × List DownstreamPort) : Type 0 where
  pub front : List DownstreamPort
  pub port : DownstreamPort
  pub at : port.id ≡ id
  pub first : parts.0 ≡ front ++ port ∷ []
  pub whole : ports ≡ parts.0 ++ parts.1

pub split-is : (id : ℕ) (ports : List DownstreamPort) → MatchOption (split_behind id ports) (port_at ports id ≡ None) (λ parts. IsSplit id ports parts)
split-is id [] = refl
split-is id (q ∷ ports) = go (q.id == id) refl (split_behind id ports) (split-is id ports)
  where
    go : (b : Bool) → (q.id == id) ≡ b → (o : Option (List DownstreamPort × List DownstreamPort)) → MatchOption o (port_at ports id ≡ None) (λ parts. IsSplit id ports parts)
        → MatchOption (cond b (Some (q ∷ [], ports)) (option_map (λ (parts : List DownstreamPort × List DownstreamPort). (q ∷ parts.0, parts.1)) o)) (cond b (Some q) (port_at ports id) ≡ None) (λ parts. IsSplit id (q ∷ ports) parts)
    go true e o h = record { front = []; port = q; at = eqb-true q.id id e; first = refl; whole = refl }
    go false e None h = h
    go false e (Some parts) h = record {
      front = q ∷ h.front;
      port = h.port;
      at = h.at;
      first = ap (λ (ps : List DownstreamPort). q ∷ ps) h.first;
      whole = ap (λ (ps : List DownstreamPort). q ∷ ps) h.whole;
    }

-- What went through the ends of a worker, a list for each end.
use Rattle.std.specs.Prelude.{ℕ, List, [], ◌∷◌, ◌++◌, map, length, slice_set, slice_index_or}
use Rattle.rtrb.specs.Ring.{sent, received, known_free, known_items}
use Rattle.thread_rings.specs.declared.ends.Ends.{Ends}

-- what a worker put in and took, a list for each of its ends
pub record Flow (T : Type 0) : Type 0 where
  pub outs : List (List T)
  pub ins : List (List T)

module _ {T : Type 0} where
  -- what was put in by each end to put into, oldest first
  abbrev pub put_by : Ends T → List (List T)
  put_by ends = map (λ e. sent e.producer) ends.outs.items

  -- what was taken by each end to take from, oldest first
  abbrev pub taken_by : Ends T → List (List T)
  taken_by ends = map (λ e. received e.consumer) ends.ins.items

  -- how many places each end to put into knows to be free
  abbrev pub places_of : Ends T → List ℕ
  places_of ends = map (λ e. known_free e.producer) ends.outs.items

  -- how many items each end to take from knows to wait
  abbrev pub waiting_of : Ends T → List ℕ
  waiting_of ends = map (λ e. length (known_items e.consumer)) ends.ins.items

  -- one item more in the list of one end
  abbrev pub one_more : List (List T) → ℕ → T → List (List T)
  one_more lists end item = slice_set lists end (slice_index_or lists end [] ++ item ∷ [])

  abbrev pub flow_of : Ends T → Flow T
  flow_of ends = record { outs = put_by ends; ins = taken_by ends }

  abbrev pub no_flow : Flow T
  no_flow = record { outs = []; ins = [] }

  -- one end more to put into, by which these items went
  abbrev pub with_put : Flow T → List T → Flow T
  with_put flow items = record { outs = flow.outs ++ items ∷ []; ins = flow.ins }

  -- one end more to take from, by which these items came
  abbrev pub with_taken : Flow T → List T → Flow T
  with_taken flow items = record { outs = flow.outs; ins = flow.ins ++ items ∷ [] }

  -- the same for one of many workers
  abbrev pub put_back : List (Flow T) → ℕ → List T → List (Flow T)
  put_back workers i items = slice_set workers i (with_put (slice_index_or workers i no_flow) items)

  abbrev pub taken_back : List (Flow T) → ℕ → List T → List (Flow T)
  taken_back workers i items = slice_set workers i (with_taken (slice_index_or workers i no_flow) items)

use Rattle.std.proofs.Common.{◌≡◌, ◌^◌, ◌<◌, ◌%◌, refl, sym, ap, ◌∙◌, subst, true}
use Rattle.std.specs.Prelude.{unwrap_or}
use Rattle.tlp_view.specs.declared.request.RequestHead.{RequestHead}
use Rattle.tlp_view.specs.Packet.{Packet, address_in, dw_count}
use Rattle.tlp_view.specs.Kinds.{is_memory}
use Rattle.tlp_view.specs.Requests.{request, moved, RequestFits}
use Rattle.tlp_view.specs.RequestBuffer.{IsMade}
use Rattle.tlp_view.proofs.Moved.{moved_fits, moved_made, moved_is}
use Rattle.tlp_view.proofs.view.TlpView.head_at.Goals as goal

pub returns-clause-fits : goal.returns-clause-fits
returns-clause-fits c =
    let e = c.self.view_is in
    let memory : is_memory c.self.inside.kind ≡ true = ap (λ (t : Packet). is_memory t.kind) e ∙ c.requires.memory in
    let place = c.requires.place ∙ sym (ap (λ (t : Packet). unwrap_or (address_in t.body) 0 % 4096) e) in
    let small = subst (λ (t : Packet). t.length < 2 ^ 10) (sym e) c.requires.field in
    let head : RequestHead = record { requester = c.requester.result; tag = c.tag.result; enables = c.enables.result; address = c.args.address; address_type = c.address_type.result; attributes = c.attr.result } in
    subst (λ (t : Packet). RequestFits head (dw_count t.length)) e (moved_fits c.self.inside.kind c.self.inside.bytes.now c.self.invariant memory c.args.address place head c.enables.ensures.value refl c.enables.ensures.last small)

pub returns-clause-made : goal.returns-clause-made
returns-clause-made c =
    let e = c.self.view_is in
    let memory : is_memory c.self.inside.kind ≡ true = ap (λ (t : Packet). is_memory t.kind) e ∙ c.requires.memory in
    let place = c.requires.place ∙ sym (ap (λ (t : Packet). unwrap_or (address_in t.body) 0 % 4096) e) in
    subst (λ (t : Packet). IsMade t.kind (dw_count t.length) t.payload) e (moved_made c.self.inside.kind c.self.inside.bytes.now c.self.invariant memory c.args.address place)

pub returns-clause-value : goal.returns-clause-value
returns-clause-value c =
    let e = c.self.view_is in
    let memory : is_memory c.self.inside.kind ≡ true = ap (λ (t : Packet). is_memory t.kind) e ∙ c.requires.memory in
    let place = c.requires.place ∙ sym (ap (λ (t : Packet). unwrap_or (address_in t.body) 0 % 4096) e) in
    let small = subst (λ (t : Packet). t.length < 2 ^ 10) (sym e) c.requires.field in
    let head : RequestHead = record { requester = c.requester.result; tag = c.tag.result; enables = c.enables.result; address = c.args.address; address_type = c.address_type.result; attributes = c.attr.result } in
    subst (λ (t : Packet). request t.kind head (dw_count t.length) t.payload ≡ moved t c.args.address) e
    (moved_is c.self.inside.kind c.self.inside.bytes.now c.self.invariant memory c.args.address place head c.enables.ensures.value refl c.enables.ensures.last small
    (c.attr.ensures ∙ sym (ap (λ (t : Packet). t.attributes) e)) c.address_type.ensures (c.requester.ensures ∙ sym (ap (λ (t : Packet). t.requester) e)) (c.tag.ensures ∙ sym (ap (λ (t : Packet). t.tag) e)))

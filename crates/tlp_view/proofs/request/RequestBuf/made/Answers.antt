use Rattle.std.proofs.Common.{◌≡◌, length, ap, ◌∙◌, arith}
use Rattle.tlp_view.specs.Bytes.{packet_of}
use Rattle.tlp_view.proofs.Requested.{buffer_from, made_bytes, made_small, request_again}
use Rattle.tlp_view.proofs.request.RequestBuf.made.Goals as goal

pub invariant_of-result : goal.invariant_of-result
invariant_of-result c =
    let start : length c.append.new.packet.items ≡ 8 = omega (arith, ap length c.new-packet.ensures) in
    let small = made_small c.args.head.address (length c.append.new.packet.items) (length c.append_address.new.packet.items) (length c.append-2.new.packet.items) (length c.args.payload.now) start c.append_address.ensures.len c.append-2.ensures.len c.requires.kind.small in
    let whole = made_bytes c.args.kind c.args.head c.args.length c.args.payload.now _ _ _ _ _ c.front_bytes-front.ensures.value c.new-packet.ensures c.append.ensures.value c.append_address.ensures.value c.append-2.ensures.value in
    buffer_from c.args.kind c.args.head c.args.length c.args.payload.now c.requires.kind c.requires.fits c.append-2.new.packet.items c.front_bytes-front.ensures.requester c.front_bytes-front.ensures.tag c.append_address.ensures.small small whole

pub returns : goal.returns
returns c =
    let whole = made_bytes c.args.kind c.args.head c.args.length c.args.payload.now _ _ _ _ _ c.front_bytes-front.ensures.value c.new-packet.ensures c.append.ensures.value c.append_address.ensures.value c.append-2.ensures.value in
    ap packet_of whole ∙ request_again c.args.kind c.args.head c.args.length c.args.payload.now c.requires.kind c.requires.fits c.front_bytes-front.ensures.requester c.front_bytes-front.ensures.tag c.append_address.ensures.small

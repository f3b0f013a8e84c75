-- `octets16` meets its contract: `octets_of` gives the same octets as `to_be_bytes`.
use Rattle.std.proofs.Common.{◌≡◌, ◌∙◌}
use Rattle.address.specs.Octets.{octets_of}
use Rattle.address.proofs.Laws.OctetValues.{be_octets}
use Rattle.address.proofs.octets16.Goals as goal

pub returns : goal.returns
unfolding octets_of
returns c =
    let high : c.copy_from_slice.new.self ≡ octets_of 8 c.args.high = c.copy_from_slice.ensures.after ∙ c.to_be_bytes.ensures ∙ be_octets 8 c.args.high in
    let low : c.copy_from_slice-2.new.self ≡ octets_of 8 c.args.low = c.copy_from_slice-2.ensures.after ∙ c.to_be_bytes-2.ensures ∙ be_octets 8 c.args.low in
    rw (high, low)

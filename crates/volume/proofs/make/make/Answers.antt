use Rattle.std.proofs.Common.{◌≡◌, ◌-◌, true, false, eqb, leb, length, sym, ◌∙◌, arith, eq-eqb, ne_eqb, le-leb}
use Rattle.std.proofs.lemmas.Bool.{lt-leb}
use Rattle.format.specs.Layout.{block_bytes}
use Rattle.fault.specs.declared.refusal.Refusal.TheVariants.{BufferSize, MakeSizes}
use Rattle.fault.specs.Refusals.{beyond, keeper}
use Rattle.disk.specs.Medium.{ran}
use Rattle.format.specs.Sizes.{lawful_sizes}
use Rattle.rules.specs.Calls.{done}
use Rattle.rules.specs.Make.{make_answer, make_writes}
use Rattle.volume.proofs.Made.{unlawful, too_large, bad_buffer, accepted_make, refused_writes, done_writes}
use Rattle.volume.proofs.Runs.{make_starts}
use Rattle.volume.proofs.make.make.Goals as goal

pub returns-in_err-sizes-clause-wrote : goal.returns-in_err-sizes-clause-wrote
returns-in_err-sizes-clause-wrote g c =
    let m = g.D.Disk.medium c.args.d.now in
    let i = c.args.isize in
    let f = c.args.fsize in
    let b = length c.args.buffer.now in
    let a = unlawful i f b (length m.sectors) (sym (c.in_err-sizes.ensures.variant ∙ c.new.ensures.when)) in
    refused_writes i f (make_answer i f b (length m.sectors)) (keeper MakeSizes) m a

pub returns-then-count-fsize-clause-wrote : goal.returns-then-count-fsize-clause-wrote
returns-then-count-fsize-clause-wrote g c =
    let m = g.D.Disk.medium c.args.d.now in
    let i = c.args.isize in
    let f = c.args.fsize in
    let b = length c.args.buffer.now in
    let n = c.count.ensures.is in
    let q : leb f (length m.sectors) ≡ false = lt-leb f (length m.sectors) (omega arith) in
    let a = too_large i f b (length m.sectors) (sym {a = true} (c.in_ok-sizes.ensures.variant ∙ c.new.ensures.when)) q in
    refused_writes i f (make_answer i f b (length m.sectors)) (beyond (f - 1)) m a

pub returns-in_err-sb-clause-wrote : goal.returns-in_err-sb-clause-wrote
returns-in_err-sb-clause-wrote g c =
    let m = g.D.Disk.medium c.args.d.now in
    let i = c.args.isize in
    let f = c.args.fsize in
    let b = length c.args.buffer.now in
    let n = c.count.ensures.is in
    let q : leb f (length m.sectors) ≡ true = le-leb f (length m.sectors) (omega arith) in
    let e : eqb b block_bytes ≡ false = ne_eqb b block_bytes (rw c.in_err-sb.ensures.ok_part at c.as_mut_array.ensures.cases) in
    let k = c.new.ensures.when in
    let v = c.in_ok-sizes.ensures.variant in
    let l : lawful_sizes i f ≡ true = cc in
    let a = bad_buffer i f b (length m.sectors) l q e in
    refused_writes i f (make_answer i f b (length m.sectors)) (keeper BufferSize) m a

pub returns-clause-runs : goal.returns-clause-runs
returns-clause-runs g c =
    let m = g.D.Disk.medium c.args.d.now in
    let i = c.args.isize in
    let f = c.args.fsize in
    let b = length c.args.buffer.now in
    let n = c.count.ensures.is in
    let h = rw c.in_ok-sizes.ensures.ok_part at c.new.ensures.held in
    let h0 = h.0 in
    let h1 = h.1 in
    let q : leb f (length m.sectors) ≡ true = le-leb f (length m.sectors) (omega arith) in
    let e : eqb b block_bytes ≡ true = eq-eqb b block_bytes (rw c.in_ok-sb.ensures.ok_part at c.as_mut_array.ensures.cases).long in
    let k = c.new.ensures.when in
    let v = c.in_ok-sizes.ensures.variant in
    let l : lawful_sizes i f ≡ true = cc in
    let a = accepted_make i f b (length m.sectors) l q e in
    let laid = c.lay_volume.ensures.wrote in
    let u : g.D.Disk.medium c.lay_volume.new.d ≡ ran (make_writes i f) m = cc in
    let w = done_writes i f (make_answer i f b (length m.sectors)) m (g.D.Disk.medium c.lay_volume.new.d) a u in
    make_starts (record { isize = i; fsize = f }) b m (g.D.Disk.medium c.lay_volume.new.d) done (λ x. c.count.ensures.sized) w (sym a)

-- The two legs of the named route are played one after the other, and the second starts where the first has left the choice bytes and the
-- buffer.
use Rattle.std.proofs.Common.{◌≡◌, ℕ, List, ◌≤◌, ◌++◌, length, set, drop, sym, ap, ◌∙◌, arith}
use Rattle.std.proofs.Math.ListN.{length-set}
use Rattle.route.proofs.PlayLaws.{tunnel_playable, route_length, tunnel_leg, tunnel_bytes, rest_leg, leg_long, written_all}
use Rattle.route.proofs.play.play.Goals as goal

pub bounds-buffer-0 : goal.bounds-buffer-0
bounds-buffer-0 c = let p = c.requires in omega (arith, p.4.2, route_length p.0 _ _ _ _ _ _ p.3 p.4.1)

pub bounds-buffer-1 : goal.bounds-buffer-1
bounds-buffer-1 c = let p = c.requires in simp length-set (omega (arith, p.4.2, route_length p.0 _ _ _ _ _ _ p.3 p.4.1))

pub leg-arrived-requires : goal.leg-arrived-requires
leg-arrived-requires c =
    let p = c.requires in
    let long = route_length p.0 _ _ _ _ _ _ p.3 p.4.1 in
    let r = p.4.1 in
    let bytes = tunnel_bytes p.0 _ _ _ _ _ _ p.3 r in
    (tunnel_playable _ p.3 p.0, p.2, (r.tunnel, r.used, tunnel_leg p.0 _ _ _ _ _ _ p.3 r, omega (arith, p.4.3), simp length-set (omega (arith, p.4.2)), omega (arith, p.4.3)))

pub leg-delivered-requires : goal.leg-delivered-requires
leg-delivered-requires c =
    let p = c.requires in
    let r = p.4.1 in
    let a = c.args in
    let b = set (set a.buffer.now 0 a.near) 1 a.hop in
    let went = c.leg-arrived.ensures r.tunnel r.used (tunnel_leg p.0 _ _ _ _ _ _ p.3 r) in
    let long = route_length p.0 _ _ _ _ _ _ p.3 r in
    let wide : length b ≡ length a.buffer.now = simp length-set in
    let same = leg_long b r.tunnel 2 went.1 (omega (arith, went.1, p.4.2, long, wide)) went.2 in
    let rest = rest_leg p.0 _ _ _ _ _ _ p.3 r went.0 in
    (p.0, p.3, (r.rest, rest.0, rest.2, omega (arith, p.4.3, rest.1, long), omega (arith, p.4.2, went.1, long, same, wide), omega (arith, p.4.3, went.1, long)))

pub returns : goal.returns
returns c = λ route r.
    let p = c.requires in
    let a = c.args in
    let went = c.leg-arrived.ensures r.tunnel r.used (tunnel_leg p.0 _ _ _ _ _ _ p.3 r) in
    let long = route_length p.0 _ _ _ _ _ _ p.3 r in
    let two : 2 ≤ length a.buffer.now = omega (arith, p.4.2, route_length p.0 _ _ _ _ _ _ p.3 p.4.1) in
    let rest = rest_leg p.0 _ _ _ _ _ _ p.3 r went.0 in
    let second = c.leg-delivered.ensures r.rest rest.0 rest.2 in (
      second.1 ∙ omega (arith, went.1, long),
      written_all a.buffer.now a.near a.hop r.tunnel r.rest two went.1 second.1 went.2 second.2 ∙ ap (λ (l : List ℕ). l ++ drop c.leg-delivered.result.written a.buffer.now) (sym r.whole),
    )

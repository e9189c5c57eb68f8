pub mod Fragments
pub mod Joined
pub mod Round
pub mod Stripe
pub mod WhatWasCut

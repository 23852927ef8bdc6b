mod Fitting
mod KindFits
mod Accepted
